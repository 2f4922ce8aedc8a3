use Rattle.hx_fenced_log.proofs.Telling.{stands_on}
use Rattle.hx_fenced_log.proofs.laws.what_is_read_stands.Goals as goal

pub returns : goal.returns
returns c = stands_on
