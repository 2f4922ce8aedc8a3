use Rattle.std.proofs.Common.{length}
use Rattle.hx_report.proofs.Sums.{SumSoFar}
use Rattle.hx_report.proofs.texts.sum_of.Given as goal

abbrev pub invariant-loop-line : goal.invariant-loop-line
invariant-loop-line l = SumSoFar l.sieve l.fn.text l.rest l.lines l.hasher

abbrev pub decreases-loop-line : goal.decreases-loop-line
decreases-loop-line l = length l.rest
