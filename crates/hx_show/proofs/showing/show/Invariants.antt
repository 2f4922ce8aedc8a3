use Rattle.hx_show.proofs.Texts.{SoFar}
use Rattle.hx_show.proofs.showing.show.Given as goal

abbrev pub invariant-loop : goal.invariant-loop
invariant-loop g l = SoFar l.fn.choice (g.R.Read.remaining l.fn.reader) (g.R.Read.remaining l.reader) (g.W.Write.contents l.fn.writer) (g.W.Write.contents l.writer)
