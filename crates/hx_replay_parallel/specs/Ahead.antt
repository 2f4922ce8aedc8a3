-- Lines that are read before they are applied, and the output that is not yet written.
use Rattle.std.specs.Prelude.{◌≡◌, ◌∷◌, ℕ, List, ◌++◌, map, Option}
use Rattle.std.specs.List.{AllByRecursion}
use Rattle.hx_rules.specs.declared.event.Event.{Event}
use Rattle.hx_tape_lines.specs.Text.{Entry, line, tape}
use Rattle.hx_replay.specs.declared.fault.TapeError.{TapeError}
use Rattle.hx_replay.specs.declared.fault.TapeError.TheVariants as fault
use Rattle.hx_tape_lines.specs.Events.{event_of, IsKnown}
use Rattle.hx_replay.specs.Run.{Progress, Faults, AreEvents, after_all, output_all}
use Rattle.hx_replay.specs.Gathering.{Gathers}

-- events of entries that say something
pub record AreOf (entries : List Entry) (events : List Event) : Type 0 where
  pub are_known : AllByRecursion IsKnown entries
  pub events_are : events ≡ map event_of entries

-- the text is the lines of these events, and a rest
pub record IsAhead (text : List ℕ) (events : List Event) (rest : List ℕ) : Type 0 where
  pub entries : List Entry
  pub are : AreOf entries events
  pub text_is : text ≡ tape entries ++ rest

-- lines of the text were taken after those that were taken before, and the rest is left
pub record TakesLines (text : List ℕ) (old new : List Event) (rest : List ℕ) : Type 0 where
  pub events : List Event
  pub new_is : new ≡ old ++ events
  pub ahead : IsAhead text events rest

-- these events were applied, and this is their output text
pub record AppliesAll (old new : Progress) (events : List Entry) (output : List ℕ) : Type 0 where
  pub are_events : AreEvents old events
  pub after_is : new ≡ after_all old events
  pub output_is : output ≡ output_all old events

-- the events before one that fails were applied, and except when out of memory this is their output text
pub record FailsAmong (old : Progress) (events : List Entry) (output : List ℕ)
    (e : TapeError) : Type 0 where
  pub applied : List Entry
  pub bad : Entry
  pub others : List Entry
  pub events_are : events ≡ applied ++ bad ∷ others
  pub are_events : AreEvents old applied
  pub faults : Faults (after_all old applied) (line bad) e
  pub output_is : (e ≡ fault.NoMemory → ⊥) → output ≡ output_all old applied

-- Of this text these events are read and not yet applied, and the rest is not read; the earlier output that is not yet
-- written is gathered.
pub record IsAtTurn (old new : Progress) (text : List ℕ) (w v : Option (List ℕ))
    (gathered : List ℕ) (now : List Event) (rest : List ℕ) : Type 0 where
  pub pending : List ℕ
  pub gathers : Gathers old new text w v gathered pending
  pub ahead : IsAhead pending now rest
