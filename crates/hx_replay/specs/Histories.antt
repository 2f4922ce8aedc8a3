-- A history written as a tape, and replayed.
use Rattle.std.specs.Prelude.{◌≡◌, List, map}
use Rattle.hx_members.specs.Setups.{Setup}
use Rattle.hx_rules.specs.declared.event.Event.{Event}
use Rattle.hx_tape_lines.specs.Text.{Entry}
use Rattle.hx_tape_lines.specs.Events.{event_of}
use Rattle.hx_replay.specs.Run.{start, output_all, AreEvents}
use Rattle.hx_replay.specs.Seen.{texts_of, output_lines}

-- The entries are those of the events, `replay` takes them, and writes the market's output for the events.
pub record IsReplayed (setup : Setup) (events : List Event) (entries : List Entry) : Type 0 where
  pub same : map event_of entries ≡ events
  pub taken : AreEvents (start setup) entries
  pub output : output_all (start setup) entries ≡ texts_of (output_lines setup events)
