-- What a whole replay reads and writes.
use Rattle.std.specs.Prelude.{◌≡◌, ℕ, List, map, Option}
use Rattle.std.specs.Io.KnownBytes.{Consumes, Appends, IsAtEnd}
use Rattle.hx_members.specs.Setups.{Setup}
use Rattle.hx_replay.specs.declared.fault.TapeError.{TapeError}
use Rattle.hx_replay.specs.declared.run.Counts.{Counts}
use Rattle.hx_tape_lines.specs.Text.{Entry, tape}
use Rattle.hx_tape_lines.specs.Events.{event_of}
use Rattle.hx_replay.specs.Run.{start, after_all, output_all, AreEvents, Stops, counts_of}
use Rattle.hx_replay.specs.Seen.{LeavesNoTrace}
use Rattle.hx_replay.specs.Quiet.{TellsNothing, TextsTellNothing}

-- What was read is the text of events and their output text was written, all of it; in it quiet orders leave no trace,
-- whichever of them are struck, also in a comparison of texts.
pub record ReplaysAll (setup : Setup) (counts : Counts) (r s w v : Option (List ℕ)) : Type 0 where
  pub events : List Entry
  pub are_events : AreEvents (start setup) events
  pub read : Consumes r s (tape events)
  pub at_end : IsAtEnd s
  pub counts_are : counts ≡ counts_of (after_all (start setup) events)
  pub wrote : Appends w v (output_all (start setup) events)
  pub no_trace : LeavesNoTrace setup events
  pub tells_nothing : TellsNothing setup (map event_of events)
  pub texts : TextsTellNothing setup events

-- What was read, and how much of the output text of its events was written; in that quiet orders leave
-- no trace.
pub record StopsAt (setup : Setup) (e : TapeError) (r s w v : Option (List ℕ)) : Type 0 where
  pub text : List ℕ
  pub read : Consumes r s text
  pub stops : Stops (IsAtEnd s) (start setup) text w v e
  pub no_trace : LeavesNoTrace setup stops.events
  pub tells_nothing : TellsNothing setup (map event_of stops.events)
  pub texts : TextsTellNothing setup stops.events
