use Rattle.std.proofs.Common.{◌≡◌, List, length}
use Rattle.hx_audit.specs.declared.auditor.Whose.TheVariants.{OfAll}
use Rattle.hx_tape_lines.specs.Text.{Entry, tape}
use Rattle.hx_replay.specs.Run.{start, AreEvents}
use Rattle.hx_report.specs.Marks.{HasTakenLines}
use Rattle.hx_report.proofs.Tapes.{GoesOn}
use Rattle.hx_report.proofs.marks.take_lines.Given as goal

abbrev pub invariant-loop-line : goal.invariant-loop-line
invariant-loop-line l =
    record {
      setup : l.taken.auditor.setup ≡ l.setup;
      whose : l.taken.auditor.whose ≡ OfAll;
      taken : (es : List Entry) → AreEvents (start l.setup) es → l.fn.text ≡ tape es → GoesOn es l.rest (HasTakenLines l.taken);
    }

abbrev pub decreases-loop-line : goal.decreases-loop-line
decreases-loop-line l = length l.rest
