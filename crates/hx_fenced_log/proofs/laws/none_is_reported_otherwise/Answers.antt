use Rattle.hx_fenced_log.proofs.Telling.{none_otherwise}
use Rattle.hx_fenced_log.proofs.laws.none_is_reported_otherwise.Goals as goal

pub returns : goal.returns
returns c = none_otherwise
