use Rattle.hx_fenced_log.proofs.Succeeding.{nothing_lost}
use Rattle.hx_fenced_log.proofs.laws.nothing_durable_is_lost.Goals as goal

pub returns : goal.returns
returns c = nothing_lost
