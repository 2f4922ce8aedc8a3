use Rattle.std.proofs.Common.{sym, ap, ◌∙◌, refl}
use Rattle.std.specs.List.{before_first}
use Rattle.hx_operator.specs.Marks.{is_hash}
use Rattle.hx_operator.proofs.Cuts.{none_passes, before_cut, before_none}
use Rattle.hx_operator.proofs.marks.before_comment.Goals as goal

pub returns-in-Some : goal.returns-in-Some
returns-in-Some c =
    let said = c.in-Some.said.now in
    let cut = c.in-Some.ensures.some in
    sym (ap (before_first is_hash) cut.0 ∙ before_cut is_hash said 35 c.in-Some.field-0-1.now (none_passes 35 said cut.1) refl)

pub returns-in-None : goal.returns-in-None
returns-in-None c =
    let text = c.args.text.now in
    sym (before_none is_hash text (none_passes 35 text c.in-None.ensures.none))
