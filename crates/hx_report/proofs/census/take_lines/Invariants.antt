use Rattle.std.proofs.Common.{◌≡◌, List, map, length}
use Rattle.hx_tape_lines.specs.Text.{Entry, tape}
use Rattle.hx_tape_lines.specs.Events.{event_of}
use Rattle.hx_replay.specs.Run.{start, AreEvents}
use Rattle.hx_report.specs.Noted.{HasNoted}
use Rattle.hx_report.proofs.Tapes.{GoesOn}
use Rattle.hx_report.proofs.census.take_lines.Given as goal

abbrev pub invariant-loop-line : goal.invariant-loop-line
invariant-loop-line l = (es : List Entry) → AreEvents (start l.setup) es → l.fn.text ≡ tape es → GoesOn es l.rest (λ done. HasNoted l.notes l.setup (map event_of done))

abbrev pub decreases-loop-line : goal.decreases-loop-line
decreases-loop-line l = length l.rest
