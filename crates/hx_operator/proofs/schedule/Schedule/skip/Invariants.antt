use Rattle.std.proofs.Common.{◌≡◌, length}
use Rattle.hx_operator.specs.Schedules.{after_past}
use Rattle.hx_operator.proofs.schedule.Schedule.skip.Given as goal

abbrev pub invariant-loop-first : goal.invariant-loop-first
invariant-loop-first l = after_past l.past l.self-inside.left.items ≡ after_past l.past l.fn.self

abbrev pub decreases-loop-first : goal.decreases-loop-first
decreases-loop-first l = length l.self-inside.left.items
