use Rattle.std.proofs.Common.{◌≡◌, ◌≢◌, ℕ, List, [], length, ◌==◌, true, false, sym, ap, ◌∙◌}
use Rattle.hx_report.proofs.Cuts.{cut_line}
use Rattle.hx_report.proofs.Lines.{fed_first, last_first}
use Rattle.hx_report.proofs.texts.split_line.Goals as goal

pub returns-in-Some-clause-some : goal.returns-in-Some-clause-some
returns-in-Some-clause-some c =
    let text = c.args.text.now in
    let line = c.in-Some.line.now in
    let others = c.in-Some.others.now in
    let cut = c.in-Some.ensures.some in
    fed_first text _ line others cut.0 cut.1 (cut_line text line others cut.0)

pub returns-in-None-clause-some : goal.returns-in-None-clause-some
returns-in-None-clause-some c =
    let some : c.args.text.now ≢ [] = λ e.
    let z : false ≡ true = sym c.if-is_empty.false ∙ c.is_empty.ensures ∙ ap (λ (l : List ℕ). length l == 0) e in
    absurd (let y : false ≡ true = z in cc) in
    last_first c.args.text.now some c.in-None.ensures.none
