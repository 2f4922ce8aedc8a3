use Rattle.std.proofs.Common.{length}
use Rattle.hx_fenced_log.proofs.Copies.{Passed}
use Rattle.hx_fenced_log.proofs.terms.copy.first_record.Given as goal

abbrev pub decreases-loop-line : goal.decreases-loop-line
decreases-loop-line l = length l.rest

-- no record begins in the lines so far
abbrev pub invariant-loop-line : goal.invariant-loop-line
invariant-loop-line l = Passed l.text l.len l.rest
