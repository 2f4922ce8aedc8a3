use Rattle.std.proofs.Common.{◌∙◌}
use Rattle.hx_report.proofs.Lines.{begins_so}
use Rattle.hx_report.proofs.looks.begins.Goals as goal

pub returns : goal.returns
returns c = c.starts_with.ensures.value ∙ begins_so c.args.beginning.now c.args.line.now
