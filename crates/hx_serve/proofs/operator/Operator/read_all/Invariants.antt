use Rattle.std.proofs.Common.{List, ℕ}
use Rattle.std.specs.Io.KnownBytes.{Consumes}
use Rattle.hx_serve.specs.Operator.{Conducts}
use Rattle.hx_serve.proofs.operator.Operator.read_all.Given as goal

-- what was read so far
abbrev pub invariant-loop : goal.invariant-loop
invariant-loop g l =
    (text : List ℕ) × Consumes (g.R.Read.remaining l.fn.reader) (g.R.Read.remaining l.reader) text
    × Conducts text l.fn.self.pass.sent l.self.pass.sent l.self.pending.items
