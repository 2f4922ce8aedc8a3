use Rattle.std.proofs.Common.{refl}
use Rattle.hx_report.proofs.Adding.{row_is}
use Rattle.hx_report.proofs.report.row_at.Goals as goal

pub returns : goal.returns
returns c es d h =
    row_is c.args.day.now.setup es c.args.members.now c.args.index c.index-members-index.result d _ c.requires refl (c.of.ensures es h) (c.in_ok-check_member.ensures es h)
