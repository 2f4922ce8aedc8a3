-- Whole runs of a screen, by the contracts of its calls, and what its own book is then.
use Rattle.std.specs.Prelude.{ℕ, ◌≡◌, List, [], ◌∷◌, ◌++◌, take, true, Option, Some, None, Result, Ok, Err, ⊤}
use Rattle.std.specs.List.{AllByRecursion}
use Rattle.hx_itch.specs.declared.message.Feed.{Feed}
use Rattle.hx_mold.specs.declared.packet.MoldPacket.{MoldPacket}
use Rattle.hx_mold.specs.Reading.{packet_of}
use Rattle.hx_members.specs.Setups.{Setup}
use Rattle.hx_rules.specs.declared.event.Event.{Event}
use Rattle.hx_rules.specs.Steps.{run, feed}
use Rattle.hx_laws.specs.FeedBook.{shown_book, book_from, shown_orders, IsUncrossed}
use Rattle.hx_laws.specs.Recorded.{AreRecorded}
use Rattle.hx_laws.specs.FeedFits.{FitsSetup, FitsEvent}
use Rattle.hx_reader.specs.declared.fault.ApplyError.TheVariants as errors
use Rattle.hx_reader.specs.declared.fault.ScreenError.{ScreenError}
use Rattle.hx_reader.specs.declared.fault.ScreenError.TheVariants as faults
use Rattle.hx_reader.specs.declared.screen.Screen.{Screen}
use Rattle.hx_reader.specs.Readings.{opening, received, session_of, is_whole}
use Rattle.hx_reader.specs.Runs.{Step, Comes, IsAsked, given, after_all}
use Rattle.hx_reader.specs.Screens.{StepGives}
use Rattle.hx_reader_laws.specs.Screens.{read, spelled_feed}
use Rattle.hx_reader_laws.specs.Venues.{IsVenues}

-- ---- calls

-- a call of a screen: a datagram that it receives, or a step, with what that gives
pub data Call : Type 0 where
  Receives : (datagram : List ℕ) → Call
  Steps : Result (Option Feed) ScreenError → Call

-- what the contract of a call promises of the screen before it and after it
abbrev pub Does : (old new : Screen) → Call → Type 0
Does old new (Receives datagram) =
    (new.reader ≡ received old.reader datagram) × (new.book ≡ old.book)
Does old new (Steps result) = StepGives old new result

-- a call, with the screen that it leaves
abbrev pub Called : Type 0
Called = Call × Screen

-- calls one after the other, from this screen on
abbrev pub AreCalls : Screen → List Called → Type 0
AreCalls screen [] = ⊤
AreCalls screen (c ∷ calls) = Does screen c.1 c.0 × AreCalls c.1 calls

-- the screen after these calls
abbrev pub screen_after : Screen → List Called → Screen
screen_after screen [] = screen
screen_after screen (c ∷ calls) = screen_after c.1 calls

-- what a call hands out
abbrev pub tells : Call → List Feed
tells (Receives datagram) = []
tells (Steps (Ok None)) = []
tells (Steps (Ok (Some message))) = message ∷ []
tells (Steps (Err error)) = []

-- what calls hand out, in order
abbrev pub output_by : List Called → List Feed
output_by [] = []
output_by (c ∷ calls) = tells c.0 ++ output_by calls

-- what a call does to the reader: a step for which there is no memory leaves it as it was
abbrev pub moves : Call → List Step
moves (Receives datagram) = Comes datagram ∷ []
moves (Steps (Ok message)) = IsAsked ∷ []
moves (Steps (Err faults.Unreadable)) = IsAsked ∷ []
moves (Steps (Err (faults.Apply errors.NoMemory))) = []
moves (Steps (Err (faults.Apply errors.Unknown))) = IsAsked ∷ []
moves (Steps (Err (faults.Apply errors.Known))) = IsAsked ∷ []
moves (Steps (Err (faults.Apply errors.TooMany))) = IsAsked ∷ []

-- what calls do to the reader
abbrev pub moved_by : List Called → List Step
moved_by [] = []
moved_by (c ∷ calls) = moves c.0 ++ moved_by calls

-- a call that reports no message that was passed over: its error, if any, is want of memory
abbrev pub PassesNone : Call → Type 0
PassesNone (Receives datagram) = ⊤
PassesNone (Steps (Ok message)) = ⊤
PassesNone (Steps (Err faults.Unreadable)) = ⊥
PassesNone (Steps (Err (faults.Apply errors.NoMemory))) = ⊤
PassesNone (Steps (Err (faults.Apply errors.Unknown))) = ⊥
PassesNone (Steps (Err (faults.Apply errors.Known))) = ⊥
PassesNone (Steps (Err (faults.Apply errors.TooMany))) = ⊥

-- a screen as `Screen::new` gives it
pub record IsNew (session : List ℕ) (indices : ℕ) (screen : Screen) : Type 0 where
  pub reader : screen.reader ≡ opening session indices
  pub book : screen.book ≡ []

-- What calls leave and hand out: the reader is that of its steps, the book that of the messages which were handed out,
-- and these read what the reader gave, if none was passed over.
pub record Ran (screen : Screen) (calls : List Called) : Type 0 where
  pub reader : (screen_after screen calls).reader ≡ after_all screen.reader (moved_by calls)
  pub book : (screen_after screen calls).book ≡ book_from screen.book (output_by calls)
  pub reads :
      AllByRecursion (λ c. PassesNone c.0) calls
      → read (given screen.reader (moved_by calls)) ≡ Some (output_by calls)

-- whatever is received, and whatever the steps give
abbrev pub RunsSo : Type 0
RunsSo = (screen : Screen) (calls : List Called) → AreCalls screen calls → Ran screen calls

-- ---- the book of the venue

-- a datagram that is received is one of the venue's, or no packet of this session
abbrev pub ComesFrom : (M : Type 0) → (messages_of : M → List (List ℕ))
    → (feed : List (List ℕ)) → (session : List ℕ) → Call → Type 0
ComesFrom M messages_of feed session (Steps result) = ⊤
ComesFrom M messages_of feed session (Receives datagram) =
    (p : MoldPacket) → packet_of datagram ≡ Some p → session_of p ≡ session
    → IsVenues M messages_of feed session datagram

-- A recorded history whose values are those of their types, and the calls of a new screen, which
-- receives of its session what the venue sends of that history's feed.
pub record Follows (M : Type 0) (messages_of : M → List (List ℕ)) (setup : Setup)
    (events : List Event) (session : List ℕ) (indices : ℕ) (screen : Screen)
    (calls : List Called) : Type 0 where
  pub fits_setup : FitsSetup setup
  pub fits_events : AllByRecursion FitsEvent events
  pub recorded : AreRecorded setup events
  pub is_new : IsNew session indices screen
  pub are_calls : AreCalls screen calls
  pub from_venue :
      AllByRecursion (λ c. ComesFrom M messages_of (spelled_feed setup events) session c.0) calls

-- What the screen shows: no message was passed over, a beginning of the feed was handed out, and the screen's book is
-- that of this beginning. If it ends with an event, the book is the venue's shown orders then, and uncrossed; if the
-- reader is whole, it is the whole feed, and the book that of its end.
pub record Shows (setup : Setup) (events : List Event) (calls : List Called) (screen : Screen)
    (seen : List Feed) : Type 0 where
  pub passes_none : AllByRecursion (λ c. PassesNone c.0) calls
  pub later : List Feed
  pub beginning : seen ++ later ≡ feed setup events
  pub book : screen.book ≡ shown_book seen
  pub at_event :
      (n : ℕ) → seen ≡ feed setup (take n events)
      → (screen.book ≡ shown_orders setup (run setup (take n events)).live)
      × IsUncrossed screen.book
  pub whole :
      is_whole screen.reader ≡ true
      → (seen ≡ feed setup events)
      × (screen.book ≡ shown_orders setup (run setup events).live)

-- What a screen shows is the venue's book.
abbrev pub ShowsTheBook : (M : Type 0) → Type 0
ShowsTheBook M =
    (messages_of : M → List (List ℕ)) (setup : Setup) (events : List Event) (session : List ℕ)
    (indices : ℕ) (screen : Screen) (calls : List Called)
    → Follows M messages_of setup events session indices screen calls
    → Shows setup events calls (screen_after screen calls) (output_by calls)
