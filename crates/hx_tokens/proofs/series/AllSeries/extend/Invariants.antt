use Rattle.std.proofs.Common.{◌+◌, ◌-◌, length}
use Rattle.hx_tokens.proofs.series.AllSeries.extend.Given as goal

abbrev pub decreases-loop-alloc : goal.decreases-loop-alloc
decreases-loop-alloc l = l.member + 1 - length l.self.members.items
