use Rattle.hx_units.specs.Writing.{Writes}
use Rattle.hx_units.proofs.writing.write_whole.Given as goal

abbrev pub invariant-loop : goal.invariant-loop
invariant-loop g l = Writes (g.W.Write.contents l.fn.writer) (g.W.Write.contents l.writer) l.bytes l.rest
