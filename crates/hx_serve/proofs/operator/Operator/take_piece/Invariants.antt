use Rattle.std.proofs.Common.{◌++◌, length}
use Rattle.hx_serve.specs.Operator.{Conducts}
use Rattle.hx_serve.proofs.operator.Operator.take_piece.Given as goal

abbrev pub invariant-loop-line : goal.invariant-loop-line
invariant-loop-line g l =
    Conducts (l.fn.self.pending.items ++ l.fn.piece) l.fn.self.pass.sent l.self.pass.sent l.rest

abbrev pub decreases-loop-line : goal.decreases-loop-line
decreases-loop-line g l = length l.rest
