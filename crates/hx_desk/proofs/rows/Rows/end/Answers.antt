use Rattle.std.proofs.Common.{◌≡◌, ◌-◌, length, map, min, take, drop, ap, sym, ◌∙◌, arith}
use Rattle.std.proofs.lemmas.List.{drop-map}
use Rattle.hx_units.specs.Fields.{texts}
use Rattle.hx_desk.proofs.RowLaws.{end_from}
use Rattle.hx_desk.proofs.rows.Rows.end.Goals as goal

pub returns-clause-replies : goal.returns-clause-replies
returns-clause-replies c =
    let row = c.row-row.result.now in
    let first : c.min-first.result ≡ min (c.args.from - 1) (length row) =
    omega (arith, c.min-first.ensures, c.saturating_sub.ensures) in
    ap texts (end_from row (c.args.from - 1) c.min-first.result first)
    ∙ sym (drop-map (λ m. m.items) (c.args.from - 1) row)
    ∙ ap (drop (c.args.from - 1)) c.row-row.ensures.replies
