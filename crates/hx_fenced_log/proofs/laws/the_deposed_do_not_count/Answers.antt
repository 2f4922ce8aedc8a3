use Rattle.hx_fenced_log.proofs.Taking.{deposed}
use Rattle.hx_fenced_log.proofs.laws.the_deposed_do_not_count.Goals as goal

pub returns : goal.returns
returns c = deposed
