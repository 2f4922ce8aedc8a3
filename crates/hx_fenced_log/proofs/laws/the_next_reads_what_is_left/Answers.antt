use Rattle.hx_fenced_log.proofs.Succeeding.{next_reads}
use Rattle.hx_fenced_log.proofs.laws.the_next_reads_what_is_left.Goals as goal

pub returns : goal.returns
returns c = next_reads
