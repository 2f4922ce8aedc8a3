use Rattle.hx_journal.proofs.Measuring.{Measured}
use Rattle.hx_journal.proofs.measure.measure.Given as goal

abbrev pub invariant-loop-i : goal.invariant-loop-i
invariant-loop-i l = Measured l.bytes l.i l.start l.lines l.whole
