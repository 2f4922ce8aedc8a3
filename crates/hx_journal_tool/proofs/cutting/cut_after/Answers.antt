use Rattle.std.proofs.Common.{◌≡◌, ap, subst, sym, ◌∙◌}
use mathlib.Core.List.{IsPrefix}
use Rattle.hx_journal.specs.Records.{recovered}
use Rattle.hx_journal.specs.Surveys.{before_damage}
use Rattle.hx_journal.proofs.Moments.{started}
use Rattle.hx_journal.proofs.Fronts.{damage_begins}
use Rattle.hx_journal_tool.proofs.cutting.cut_after.Goals as goal

pub returns-then-is_none-2-clause-any_moment : goal.returns-then-is_none-2-clause-any_moment
returns-then-is_none-2-clause-any_moment g c =
    let file = before_damage c.args.text.now c.args.survey.now.damage in
    let begins = damage_begins c.args.text.now c.args.survey.now.damage in
    started g.D.Device.moment g.D.Device.left_since c.args.file.now (λ f. IsPrefix (recovered file) (recovered f)) (λ f left.
    let here = c.requires.durable f (g.met.D.Device.only_now c.args.file.now f left) in
    subst (λ b. IsPrefix (recovered file) (recovered b)) (c.requires.read ∙ sym here) begins)
