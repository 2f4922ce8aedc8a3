use Rattle.hx_fenced_log.proofs.Taking.{one_writer}
use Rattle.hx_fenced_log.proofs.laws.a_term_has_one_writer.Goals as goal

pub returns : goal.returns
returns c = one_writer
