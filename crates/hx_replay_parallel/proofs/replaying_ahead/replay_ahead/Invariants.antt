use Rattle.hx_replay.proofs.PieceByPiece.{SoFar}
use Rattle.hx_replay_parallel.proofs.replaying_ahead.replay_ahead.Given as goal

abbrev pub invariant-loop : goal.invariant-loop
invariant-loop g l = SoFar l.fn.setup (g.R.Read.remaining l.fn.reader) (g.R.Read.remaining l.reader) (g.W.Write.contents l.fn.writer) (g.W.Write.contents l.writer) l.run l.pending
