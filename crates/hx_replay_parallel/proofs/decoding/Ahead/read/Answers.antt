use Rattle.std.proofs.Common.{refl}
use Rattle.std.proofs.lemmas.Result.{on_ok_weaker}
use Rattle.hx_replay_parallel.proofs.Reading.{ahead_first}
use Rattle.hx_replay_parallel.proofs.decoding.Ahead.read.Goals as goal

pub returns-clause-ok : goal.returns-clause-ok
returns-clause-ok c = on_ok_weaker c.take_pending.result (λ h. ahead_first _ _ _ _ refl h) c.take_pending.ensures.taken
