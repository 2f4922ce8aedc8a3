use Rattle.std.proofs.Common.{rules, append_assoc}
use Rattle.hx_metrics.specs.Rows.{sample}
use Rattle.hx_metrics.proofs.rows.write_sample.Goals as goal

pub returns : goal.returns
unfolding sample
returns c = search (rules, append_assoc)
