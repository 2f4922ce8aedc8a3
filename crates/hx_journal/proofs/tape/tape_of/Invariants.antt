use Rattle.std.proofs.Common.{length}
use Rattle.hx_journal.proofs.Copying.{Copied}
use Rattle.hx_journal.proofs.tape.tape_of.Given as goal

abbrev pub decreases-loop-line : goal.decreases-loop-line
decreases-loop-line l = length l.rest

abbrev pub invariant-loop-line : goal.invariant-loop-line
invariant-loop-line l = Copied l.text l.rest l.tape.items l.count
