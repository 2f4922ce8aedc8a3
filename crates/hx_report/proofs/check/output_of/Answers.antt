use Rattle.std.proofs.Common.{sym}
use Rattle.hx_report.proofs.Checking.{output_is}
use Rattle.hx_report.proofs.check.output_of.Goals as goal

pub returns : goal.returns
returns c =
    output_is c.replay.result c.args.setup.now c.args.text.now _ _ _ (sym c.if-is_err.ensures.value) c.replay.ensures.ok c.in_ok-output.ensures.items
