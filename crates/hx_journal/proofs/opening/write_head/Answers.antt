use Rattle.std.proofs.Common.{◌∷◌, [], sym, ◌∙◌, ap, subst, refl}
use Rattle.hx_journal.specs.Lines.{lines_of}
use Rattle.hx_journal.specs.Crashes.{IsBetween}
use Rattle.hx_disk.specs.Device.{LeavesOnly}
use Rattle.hx_journal.specs.Files.{HasFromTo}
use Rattle.hx_journal.proofs.Moments.{started}
use Rattle.hx_journal.proofs.opening.write_head.Goals as goal

pub returns-in_err-append-clause-any_moment : goal.returns-in_err-append-clause-any_moment
returns-in_err-append-clause-any_moment g c =
    let P = HasFromTo [] (c.args.head.now ∷ []) in
    subst (λ d. LeavesOnly g.D.Device.moment g.D.Device.left_since c.args.lines.now.device d P) (sym c.append.ensures.disk)
    (started g.D.Device.moment g.D.Device.left_since c.args.lines.now.device P (λ f left.
    let here = c.stands.ensures.durable c.requires.open f (g.met.D.Device.only_now c.args.lines.now.device f left) in
    let none = ap lines_of here ∙ c.requires.empty in
    subst (λ l. IsBetween [] l (c.args.head.now ∷ [])) (sym none) (record { begins = ([], refl); begun = (c.args.head.now ∷ [], refl) })))
