use Rattle.std.proofs.Common.{length}
use Rattle.hx_operator.proofs.Reading.{ReadsOn}
use Rattle.hx_operator.proofs.schedule.read_schedule.Given as goal

abbrev pub invariant-loop-line : goal.invariant-loop-line
invariant-loop-line l = ReadsOn l.fn.text l.rest l.number l.entries.items

abbrev pub decreases-loop-line : goal.decreases-loop-line
decreases-loop-line l = length l.rest
