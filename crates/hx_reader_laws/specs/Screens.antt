-- What a reader of the feed shows, against the venue's live orders.
use Rattle.std.specs.Prelude.{ℕ, ◌≡◌, List, [], ◌∷◌, ◌++◌, map, take, true, Option, Some, None, slice_get}
use Rattle.std.specs.List.{AllByRecursion}
use Rattle.hx_itch.specs.declared.message.Feed.{Feed}
use Rattle.hx_itch.specs.Message.{feed_bytes, feed_message_of, IsFeed}
use Rattle.hx_members.specs.Setups.{Setup}
use Rattle.hx_rules.specs.declared.event.Event.{Event}
use Rattle.hx_rules.specs.Outputs.{EventOutput}
use Rattle.hx_rules.specs.Steps.{run, output, feed}
use Rattle.hx_laws.specs.FeedBook.{shown_book, book_from, shown_orders, IsUncrossed}
use Rattle.hx_reader.specs.Faults.{AreFaultless}
use Rattle.hx_reader.specs.Readings.{opening, is_whole}
use Rattle.hx_reader.specs.Runs.{Step, given, after_all, TellsOf}

-- ---- beginnings of a history and of its feed

-- the feed of a beginning of a history is a beginning of its feed, and the book that it makes is the shown live orders
-- after that beginning
abbrev pub AtAnEvent : Type 0
AtAnEvent =
    (setup : Setup) (beginning rest : List Event)
    → ((more : List Feed) × (feed setup beginning ++ more ≡ feed setup (beginning ++ rest)))
    × (shown_book (feed setup beginning) ≡ shown_orders setup (run setup beginning).live)

-- the messages of the feed for event n of a history, counted from 0; nothing if there is none
abbrev pub feed_at : (n : ℕ) → List EventOutput → List Feed
feed_at n outcomes = messages (slice_get outcomes n)
  where
    messages : Option EventOutput → List Feed
    messages None = []
    messages (Some t) = t.feed

-- a beginning of the feed is the output of the first n events, and a beginning of that of the next one: the book is the
-- shown live orders after n events, with that beginning applied
abbrev pub WithinAnEvent : Type 0
WithinAnEvent =
    (setup : Setup) (events : List Event) (seen later : List Feed)
    → seen ++ later ≡ feed setup events
    → (n : ℕ) × (part more : List Feed)
    × (seen ≡ feed setup (take n events) ++ part)
    × (part ++ more ≡ feed_at n (output setup events))
    × (shown_book seen ≡ book_from (shown_orders setup (run setup (take n events)).live) part)

-- each message of the feed of a history is one of a feed with the book of those before it
abbrev pub HasNoFault : Type 0
HasNoFault = (setup : Setup) (events : List Event) → AreFaultless [] (feed setup events)

-- ---- a reader of datagrams

-- the messages that these bytes are, one after the other; none if one of them is none
abbrev pub read : List (List ℕ) → Option (List Feed)
read [] = Some []
read (bytes ∷ rest) = after (feed_message_of bytes) (read rest)
  where
    after : Option Feed → Option (List Feed) → Option (List Feed)
    after (Some m) (Some ms) = Some (m ∷ ms)
    after (Some m) None = None
    after None ms = None

-- the feed of a history as bytes
abbrev pub spelled_feed : Setup → List Event → List (List ℕ)
spelled_feed setup events = map feed_bytes (feed setup events)

-- the numbers of this history's feed fit into their fields, and the datagrams of the session are of that feed
abbrev pub CarriesFeed : Setup → List Event → (session : List ℕ) → List Step → Type 0
CarriesFeed setup events session steps =
    AllByRecursion IsFeed (feed setup events)
    × AllByRecursion (TellsOf (spelled_feed setup events) session) steps

-- the book of these messages is that of the venue after n events
abbrev pub IsBookAfter : Setup → List Event → (n : ℕ) → (seen : List Feed) → Type 0
IsBookAfter setup events n seen =
    (shown_book seen ≡ shown_orders setup (run setup (take n events)).live)
    × IsUncrossed (shown_book seen)

-- What a reader hands out reads as a beginning of the feed. If that ends with an event, its book is the venue's shown
-- orders then, and uncrossed.
abbrev pub IsTheBook : Type 0
IsTheBook =
    (setup : Setup) (events : List Event) (session : List ℕ) (indices : ℕ) (steps : List Step)
    → CarriesFeed setup events session steps
    → (seen later : List Feed)
    × (read (given (opening session indices) steps) ≡ Some seen)
    × (seen ++ later ≡ feed setup events)
    × ((n : ℕ) → seen ≡ feed setup (take n events) → IsBookAfter setup events n seen)

-- And if the reader says that it is whole, it is the whole feed.
abbrev pub IsAllOfIt : Type 0
IsAllOfIt =
    (setup : Setup) (events : List Event) (session : List ℕ) (indices : ℕ) (steps : List Step)
    → CarriesFeed setup events session steps
    → is_whole (after_all (opening session indices) steps) ≡ true
    → (read (given (opening session indices) steps) ≡ Some (feed setup events))
    × (shown_book (feed setup events) ≡ shown_orders setup (run setup events).live)
