use Rattle.std.proofs.Common.{◌++◌, ap, ◌∙◌}
use Rattle.hx_units.specs.Fields.{texts}
use Rattle.hx_units.proofs.Clones.{texts_appended}
use Rattle.hx_desk.proofs.rows.copy_of.Goals as goal

pub returns-clause-ok : goal.returns-clause-ok
returns-clause-ok c =
    texts_appended _ _ _ c.in_ok-extend_from_slice.ensures.items
    ∙ ap (λ v. texts v ++ texts c.args.replies.now) c.new-row.ensures.items
