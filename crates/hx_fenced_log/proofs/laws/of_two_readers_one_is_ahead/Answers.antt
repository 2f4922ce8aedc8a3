use Rattle.hx_fenced_log.proofs.Taking.{one_is_ahead}
use Rattle.hx_fenced_log.proofs.laws.of_two_readers_one_is_ahead.Goals as goal

pub returns : goal.returns
returns c = one_is_ahead
