use Rattle.std.proofs.Common.{length}
use Rattle.hx_report.proofs.Lines.{Meet}
use Rattle.hx_report.proofs.texts.are_same.Given as goal

abbrev pub invariant-loop-line : goal.invariant-loop-line
invariant-loop-line l = Meet l.sieve l.fn.day l.fn.struck l.ahead l.rest

abbrev pub decreases-loop-line : goal.decreases-loop-line
decreases-loop-line l = length l.rest
