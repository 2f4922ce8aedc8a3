use Rattle.std.proofs.Common.{length}
use Rattle.hx_replay.specs.Gathering.{Gathers}
use Rattle.hx_replay.proofs.replaying.apply_lines.Given as goal

abbrev pub invariant-loop-line : goal.invariant-loop-line
invariant-loop-line g l = Gathers l.fn.run l.run l.fn.text (g.W.Write.contents l.fn.writer) (g.W.Write.contents l.writer) l.buffers.lines l.rest

abbrev pub decreases-loop-line : goal.decreases-loop-line
decreases-loop-line g l = length l.rest
