use Rattle.std.proofs.Common.{◌≡◌, take, sym, ap, subst, ◌∙◌}
use Rattle.std.proofs.lemmas.Result.{on_ok_weaker}
use mathlib.Core.List.{IsPrefix}
use Rattle.hx_journal.specs.Lines.{lines_of, text_of}
use Rattle.hx_journal.specs.Records.{sealed, recovered}
use Rattle.hx_journal.specs.Surveys.{before_damage}
use Rattle.hx_journal.proofs.Moments.{weaker}
use Rattle.hx_journal.proofs.Fronts.{records_are, whole_text, keeps_records}
use Rattle.hx_journal.proofs.cutting.cut_off.Goals as goal

pub repair-requires-clause-front : goal.repair-requires-clause-front
repair-requires-clause-front g c =
    let end = c.args.survey.now.end in
    subst (λ f. take end f ≡ text_of (lines_of (take end f))) c.requires.read
    (whole_text (take end c.args.text.now) (before_damage c.args.text.now c.args.survey.now.damage) c.requires.front)

pub returns-clause-retained : goal.returns-clause-retained
returns-clause-retained g c =
    let end = c.args.survey.now.end in
    on_ok_weaker c.repair.result
    (λ is. ap recovered (is ∙ ap (take end) (sym c.requires.read)) ∙ records_are (take end c.args.text.now) (before_damage c.args.text.now c.args.survey.now.damage) c.requires.front)
    c.repair.ensures.seen

pub returns-clause-any_moment : goal.returns-clause-any_moment
returns-clause-any_moment g c =
    let end = c.args.survey.now.end in
    let file = before_damage c.args.text.now c.args.survey.now.damage in
    let front = subst (λ f. take end f ≡ text_of (sealed (lines_of file))) c.requires.read c.requires.front in
    weaker g.D.Device.moment g.D.Device.left_since c.args.file.now c.repair.new.file _ (λ f. IsPrefix (recovered file) (recovered f)) c.repair.ensures.any_moment
    (λ f between. keeps_records (take end (g.D.Device.seen c.args.file.now)) file f _ front between)
