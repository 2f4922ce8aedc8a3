-- The six kinds of step on a log: which seat's view changes at it, and what the seat learns by it. No step changes the
-- view of another seat, except of a seat that is joined away.
use Rattle.std.specs.Prelude.{◌≡◌, ◌⊎◌, ℕ, ◌+◌, ◌-◌, ◌≤◌, List, [], ◌∷◌, ◌++◌, All, length, slice_index}
use mathlib.Core.List.{IsPrefix}
use Rattle.atomic_table.specs.Table.{Step}
use Rattle.hx_blog.specs.Packed.{IsMessage, words_of}
use Rattle.hx_blog.specs.Feed.{Entries, feed}
use Rattle.hx_blog.specs.Views.{SeatState, reading}
use Rattle.hx_blog.specs.declared.view.View.{View}

module _ {E : Type 0} where
  -- The writer's pass

  -- First kind: the writer stores a word above the count, where no reader looks yet. The message that it has begun has one word more.
  abbrev pub StoresWord : Step (Unit {0}) → SeatState E → ℕ → SeatState E → Type 0
  StoresWord step old word new = new ≡ (record old.0 { begun = old.0.begun ++ word ∷ [] }, old.1)

  -- The same, if the word is the last one of this message: the message is staged.
  abbrev pub StoresLastWord : List ℕ → Step (Unit {0}) → SeatState E → ℕ → SeatState E → Type 0
  StoresLastWord message step old word new =
      new ≡ (record old.0 { staged = old.0.staged ++ message ∷ []; begun = [] }, old.1)

  -- Second kind: the writer stores the count, even if it stays the same. These entries are published, and these
  -- messages stay staged. It is the one step of an event, or of several.
  abbrev pub StoresCount :
      Entries E → List (List ℕ) → Step (Unit {0}) → SeatState E → ℕ → SeatState E → Type 0
  StoresCount entries left step old count new =
      new ≡ (record old.0 { known = old.0.known ++ entries; staged = left }, old.1)

  -- The readers' pass

  -- Third kind: a reader loads the count. It knows from then on a list with that many messages, of which it knew a beginning; and it has loaded the count once more.
  abbrev pub LoadsCount : Step (Unit {0}) → SeatState E → ℕ → SeatState E → Type 0
  LoadsCount step old count new =
      (new ≡ (record old.0 { known = new.0.known; loads = old.0.loads + 1 }, old.1))
      × IsPrefix old.0.known new.0.known × (count ≡ length (feed new.0.known))
      × (count ≤ old.0.room)

  -- The word that is loaded is the one that stands there in the feed that the seat knows, whose messages are messages of the log.
  abbrev pub IsWordOfFeed : Step (Unit {0}) → SeatState E → ℕ → Type 0
  IsWordOfFeed step old word =
      (word ≡ slice_index (words_of (feed old.0.known)) (step.word - 1))
      × All IsMessage (feed old.0.known)

  -- Fourth kind: a reader loads a word below the count that it has seen. It is the word of the feed that it knows.
  abbrev pub LoadsWord : Step (Unit {0}) → SeatState E → ℕ → SeatState E → Type 0
  LoadsWord step old word new = (new ≡ old) × IsWordOfFeed step old word

  -- The same, if the word is the last one of the next message: the reader has read one message more.
  abbrev pub LoadsLastWord : Step (Unit {0}) → SeatState E → ℕ → SeatState E → Type 0
  LoadsLastWord step old word new =
      (new ≡ (record old.0 { read = old.0.read + 1 }, old.1)) × IsWordOfFeed step old word

  -- The seats' pass

  -- Fifth kind: a seat is split off another. The new one knows what the other knows, and has read and loaded nothing; the other stays as it is.
  abbrev pub newcomer : View E → View E
  newcomer v = reading v.room v.known 0 0

  -- Sixth kind: a seat is joined into another, which takes in what that seat knew, and then compares the two lists. The
  -- seat that was joined away knows nothing from then on.
  abbrev pub with_received : View E → View E → View E
  with_received v joined = record v { received = joined.known }

  -- A reader or a receipt that compares the lists: it knows from then on the longer one, which both begin.
  abbrev pub Learns : Step (Unit {0}) → SeatState E → ℕ → SeatState E → Type 0
  Learns step old count new =
      (new ≡ (record old.0 { known = new.0.known; received = [] }, old.1))
      × IsPrefix old.0.known new.0.known × IsPrefix old.0.received new.0.known
      × ((new.0.known ≡ old.0.known) ⊎ (new.0.known ≡ old.0.received))

  -- The writer compares the lists: what was joined into its seat is a beginning of what it published.
  abbrev pub Confirms : Step (Unit {0}) → SeatState E → ℕ → SeatState E → Type 0
  Confirms step old count new =
      (new ≡ (record old.0 { received = [] }, old.1)) × IsPrefix old.0.received old.0.known
