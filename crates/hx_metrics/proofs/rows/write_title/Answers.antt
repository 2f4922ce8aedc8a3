use Rattle.std.proofs.Common.{rules, append_assoc}
use Rattle.hx_metrics.specs.Rows.{title}
use Rattle.hx_metrics.proofs.rows.write_title.Goals as goal

pub returns : goal.returns
unfolding title
returns c = search (rules, append_assoc)
