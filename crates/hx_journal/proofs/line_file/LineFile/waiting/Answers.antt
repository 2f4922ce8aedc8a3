use Rattle.std.proofs.Common.{◌≡◌, ◌∙◌, length, ap, sym, arith}
use Rattle.hx_journal.specs.Lines.{lines_of}
use Rattle.hx_journal.specs.Files.{stored}
use Rattle.hx_journal.proofs.Groups.{few, few_stored}
use Rattle.hx_journal.proofs.line_file.LineFile.waiting.Goals as goal

pub returns-clause-small : goal.returns-clause-small
returns-clause-small g c = λ is.
    let s = c.self.invariant (ap (λ j. j.is_open) c.self.view_is ∙ is) in
    let f = few c.self.inside.group.items s.group_is in
    let e = few_stored (g.D.Device.seen c.self.inside.device) c.self.inside.end s.file in
    let at : length (stored g.D.Device.seen c.args.self.now) ≡ length (lines_of (g.D.Device.seen c.self.inside.device)) = ap (λ j. length (stored g.D.Device.seen j)) (sym c.self.view_is) in
    let waits : length c.args.self.now.waiting ≡ length (lines_of c.self.inside.group.items) = ap (λ j. length j.waiting) (sym c.self.view_is) in
    omega (arith, f, e, s.small, at, waits)
