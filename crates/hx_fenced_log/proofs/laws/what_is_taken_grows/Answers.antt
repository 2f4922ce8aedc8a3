use Rattle.hx_fenced_log.proofs.Taking.{taken_grows}
use Rattle.hx_fenced_log.proofs.laws.what_is_taken_grows.Goals as goal

pub returns : goal.returns
returns c = taken_grows
