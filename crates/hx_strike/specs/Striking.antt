-- What is read and written when a tape is struck.
use Rattle.std.specs.Prelude.{◌≡◌, ℕ, List, [], length, Option}
use Rattle.std.specs.Io.KnownBytes.{Consumes, Appends, IsAtEnd}
use Rattle.hx_members.specs.Setups.{Setup}
use Rattle.hx_tape_lines.specs.Text.{Entry, tape}
use Rattle.hx_replay.specs.declared.fault.TapeError.{TapeError}
use Rattle.hx_replay.specs.declared.fault.TapeError.TheVariants as fault
use Rattle.hx_replay.specs.declared.run.Counts.{Counts}
use Rattle.hx_replay.specs.Run.{start, AreEvents, IsFront}
use Rattle.hx_replay.specs.FirstFaults.{StopsBefore, ReadsSome}

-- counts of lines, and nothing else
abbrev pub counts_of_lines : ℕ → Counts
counts_of_lines lines = record { events = lines; feed = 0; replies = 0 }

-- all that was read is a tape, and its lines that stay were written as they were read
pub record StrikesAll (setup : Setup) (left : List Entry → List Entry) (counts : Counts)
    (r s w v : Option (List ℕ)) : Type 0 where
  pub events : List Entry
  pub are_events : AreEvents (start setup) events
  pub read : Consumes r s (tape events)
  pub at_end : IsAtEnd s
  pub counts_are :
      counts ≡ counts_of_lines (length (left events))
  pub wrote : Appends w v (tape (left events))

-- all that was read is a tape, and the writer failed after a front of the lines that stay
pub record StrikesSome (setup : Setup) (left : List Entry → List Entry)
    (r s w v : Option (List ℕ)) : Type 0 where
  pub events : List Entry
  pub are_events : AreEvents (start setup) events
  pub read : Consumes r s (tape events)
  pub at_end : IsAtEnd s
  pub front : List ℕ
  pub is_front : IsFront front (tape (left events))
  pub wrote : Appends w v front

-- why a tape was not struck: except for a writer that failed, nothing was written
abbrev pub StrikeStops :
    Setup → (List Entry → List Entry) → TapeError → (r s w v : Option (List ℕ)) → Type 0
StrikeStops setup left (fault.Line n k) r s w v = StopsBefore setup n k r s × Appends w v []
StrikeStops setup left fault.NoMemory r s w v = ReadsSome r s × Appends w v []
StrikeStops setup left fault.Read r s w v = ReadsSome r s × Appends w v []
StrikeStops setup left fault.Turns r s w v = ReadsSome r s × Appends w v []
StrikeStops setup left fault.Write r s w v = StrikesSome setup left r s w v

-- all that was read was written, and nothing else
abbrev pub Echoes : (r s w v : Option (List ℕ)) → Type 0
Echoes r s w v = (text : List ℕ) × Consumes r s text × Appends w v text
