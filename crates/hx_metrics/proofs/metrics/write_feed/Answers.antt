use Rattle.std.proofs.Common.{rules, append_assoc}
use Rattle.std.proofs.lemmas.Result.{IfOk-equal}
use Rattle.hx_metrics.specs.Rows.{row}
use Rattle.hx_metrics.proofs.metrics.write_feed.Goals as goal

pub returns : goal.returns
unfolding row
returns c = search (rules, IfOk-equal, append_assoc)
