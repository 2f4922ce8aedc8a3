-- Lines of output that are gathered before they are written.
use Rattle.std.specs.Prelude.{◌≡◌, ◌⊎◌, ℕ, List, ◌++◌, Option}
use Rattle.std.specs.Io.KnownBytes.{Appends}
use Rattle.hx_tape_lines.specs.Text.{Entry, tape}
use Rattle.hx_replay.specs.declared.fault.TapeError.{TapeError}
use Rattle.hx_replay.specs.declared.fault.TapeError.TheVariants as fault
use Rattle.hx_replay.specs.Run.{Progress, AreEvents, after_all, output_all}

-- the text is that of events and a rest, and of the output text of the events all was written but what is gathered
pub record Gathers (old new : Progress) (text : List ℕ) (w v : Option (List ℕ))
    (gathered rest : List ℕ) : Type 0 where
  pub events : List Entry
  pub are_events : AreEvents old events
  pub text_is : text ≡ tape events ++ rest
  pub after_is : new ≡ after_all old events
  pub written : List ℕ
  pub wrote : Appends w v written
  pub output_is : output_all old events ≡ written ++ gathered

-- what prevents lines of output from being written: the writer, or want of memory
abbrev pub IsUnwritten : TapeError → Type 0
IsUnwritten e = (e ≡ fault.Write) ⊎ (e ≡ fault.NoMemory)
