use Rattle.hx_fenced_log.proofs.Telling.{one_takes_first}
use Rattle.hx_fenced_log.proofs.laws.of_two_one_is_ahead.Goals as goal

pub returns : goal.returns
returns c = one_takes_first
