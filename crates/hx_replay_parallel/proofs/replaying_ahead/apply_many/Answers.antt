use Rattle.hx_replay.proofs.Runs.{replays_none}
use Rattle.hx_replay_parallel.proofs.replaying_ahead.apply_many.Goals as goal

pub returns-else-text-gt-FEW-clause-ok : goal.returns-else-text-gt-FEW-clause-ok
returns-else-text-gt-FEW-clause-ok g c = replays_none c.args.run.now c.args.pending.now (g.W.Write.contents c.args.writer.now)
