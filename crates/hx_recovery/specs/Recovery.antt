-- The output of an exchange that resumes from the records which a crash left.
use Rattle.std.specs.Prelude.{◌≡◌, ◌↔◌, ℕ, false, List, [], ◌∷◌, ◌++◌}
use Rattle.std.specs.List.{AllByRecursion}
use mathlib.Core.List.{IsPrefix}
use Rattle.hx_blog.specs.Feed.{Entries, feed}
use Rattle.hx_members.specs.Setups.{Setup}
use Rattle.hx_rules.specs.declared.event.Event.{Event}
use Rattle.hx_tape_lines.specs.Text.{record_of}
use Rattle.hx_tape_lines.specs.Events.{CanBeSent, IsLineOf}
use Rattle.hx_rules.specs.Orders.{Token}
use Rattle.hx_rules.specs.Steps as market
use Rattle.hx_laws.specs.Recorded.{AreRecorded}
use Rattle.hx_laws.specs.QuietChains.{Choice, strike}
use Rattle.hx_laws.specs.Laws.{AreQuietChains}
use Rattle.hx_journal.specs.Crashes.{IsBetween}
use Rattle.hx_desk.specs.declared.entry.Entry.{Entry}
use Rattle.hx_desk.specs.Entries.{events_of, restored, ledger, feed_spelled}
use Rattle.hx_desk.specs.Known.{IsWhole, history_of, known_replies}
use Rattle.hx_desk.specs.Rows.{Part, replies_spelled}
use Rattle.hx_desk.specs.Secrecy.{IsFeedWithoutTrace, AreRepliesWithoutTrace}
use Rattle.hx_engine.specs.Journals.{lines, unspoken}

-- ---- events and their records

-- an event that is read back from its record: this is its line
abbrev pub IsReadBack : Event → Type 0
IsReadBack event = IsLineOf (record_of event) event

abbrev pub AreReadBack : List Event → Type 0
AreReadBack events = AllByRecursion IsReadBack events

-- these events were read from the records, one from each, in their order
abbrev pub AreReadFrom : (texts : List (List ℕ)) → List Event → Type 0
AreReadFrom [] [] = Unit {0}
AreReadFrom [] (event ∷ events) = ⊥
AreReadFrom (text ∷ texts) [] = ⊥
AreReadFrom (text ∷ texts) (event ∷ events) = IsLineOf text event × AreReadFrom texts events

-- what a member or the operator can send is read back
abbrev pub SentIsReadBack : Type 0
SentIsReadBack = (event : Event) → CanBeSent event → IsReadBack event

-- An exchange may resume from events that were read from the records left: its journal holds the records of these
-- events and no others. And events that are read back are read from their records.
abbrev pub ReadIsResumed : Type 0
ReadIsResumed =
    (left : List (List ℕ)) (before : List Event)
    → AreReadFrom left before
    ↔ ((left ≡ lines record_of (restored before)) × AreReadBack before)

-- ---- what is published again

-- A history publishes again what was known, and only then more: its events, its feed message by message, and the
-- replies to each member begin with those that were known.
pub record IsPublishedAgain (setup : Setup) (known : Entries Entry) (history : List Entry) : Type 0 where
  pub same_events : IsPrefix (events_of (history_of known)) (events_of history)
  pub same_feed : IsPrefix (feed known) (feed (ledger setup history))
  pub same_replies :
      (member : ℕ)
      → IsPrefix (known_replies setup member known)
      (known_replies setup member (ledger setup history))

-- A crash left records that begin with those of what was known, and events were read from them.
pub record GoesOnFrom (known : Entries Entry) (before : List Event) : Type 0 where
  pub left : List (List ℕ)
  pub covered : IsPrefix (lines record_of (history_of known)) left
  pub read : AreReadFrom left before

-- an exchange that resumes from these events publishes all that was known again
abbrev pub PublishedAgainAtOnce : Type 0
PublishedAgainAtOnce =
    (setup : Setup) (known : Entries Entry) (before : List Event)
    → IsWhole setup known
    → AreReadBack (events_of (history_of known))
    → GoesOnFrom known before
    → IsPublishedAgain setup known (restored before)

-- and it still does so whatever it records from then on
abbrev pub PublishedIsPublishedAgain : Type 0
PublishedIsPublishedAgain =
    (setup : Setup) (known : Entries Entry) (before : List Event) (history : List Entry)
    → IsWhole setup known
    → AreReadBack (events_of (history_of known))
    → GoesOnFrom known before
    → IsPrefix (restored before) history
    → IsPublishedAgain setup known history

-- ---- what a crash leaves

-- At any moment, also while a batch is written: what is left begins with the records of what is published, and so with
-- those of what anybody knows.
abbrev pub AtAnyMoment : Type 0
AtAnyMoment =
    (known : Entries Entry) (output : List Entry) (left most : List (List ℕ))
    → IsPrefix (history_of known) output
    → IsBetween (lines record_of output) left most
    → IsPrefix (lines record_of (history_of known)) left

-- A receipt for what a reader knows has its entries without their messages: what is left for the
-- one is left for the other.
abbrev pub VouchedIsCovered : Type 0
VouchedIsCovered =
    (known : Entries Entry) (before : List Event)
    → GoesOnFrom (unspoken (history_of known)) before
    → GoesOnFrom known before

-- The events are a beginning of the history's, the market accepts them if it accepts the history, and all that an
-- exchange publishes which resumes from them is a beginning of what the history publishes.
pub record IsOfHistory (setup : Setup) (before : List Event) (history : List Entry) : Type 0 where
  pub begins : IsPrefix before (events_of history)
  pub accepted : AreRecorded setup (events_of history) → AreRecorded setup before
  pub output : IsPublishedAgain setup (ledger setup (restored before)) history

-- so are events that were read from what a crash left of the records of a history
abbrev pub LeftIsOfTheHistory : Type 0
LeftIsOfTheHistory =
    (setup : Setup) (durable left : List (List ℕ)) (before : List Event) (history : List Entry)
    → AreReadBack (events_of history)
    → IsBetween durable left (lines record_of history)
    → AreReadFrom left before
    → IsOfHistory setup before history

-- ---- quiet orders

-- the feed and each part of the replies to a member disclose nothing of quiet chains
pub record HasNoTrace (setup : Setup) (history : List Entry) : Type 0 where
  pub in_feed : IsFeedWithoutTrace setup (events_of history) (feed (ledger setup history))
  pub in_replies :
      (member : ℕ) (part : Part)
      → AreRepliesWithoutTrace setup (events_of history) member part
      (part (known_replies setup member (ledger setup history)))

-- of the events from before a crash with those that were recorded since
abbrev pub QuietStaysQuiet : Type 0
QuietStaysQuiet =
    (setup : Setup) (before : List Event) (since : List Entry)
    → HasNoTrace setup (restored before ++ since)

-- What was known is a beginning of the output without the messages of quiet chains: of the feed, and of the replies to
-- each member of whom no token is struck.
pub record IsPublishedWithout
    (setup : Setup) (known : Entries Entry) (chosen : Choice) (events : List Event)
    : Type 0 where
  pub in_feed : IsPrefix (feed known) (feed_spelled (market.feed setup (strike chosen events)))
  pub in_replies :
      (member : ℕ)
      → ((token : Token) → chosen member token ≡ false)
      → IsPrefix (known_replies setup member known)
      (replies_spelled (market.replies setup member (strike chosen events)))

-- Also what was published before the crash discloses nothing of chains that are quiet in the end.
abbrev pub NothingAcross : Type 0
NothingAcross =
    (setup : Setup) (known : Entries Entry) (before : List Event) (history : List Entry)
    (chosen : Choice)
    → IsWhole setup known
    → AreReadBack (events_of (history_of known))
    → GoesOnFrom known before
    → IsPrefix (restored before) history
    → AreQuietChains chosen (market.run setup (events_of history))
    → IsPublishedWithout setup known chosen (events_of history)
