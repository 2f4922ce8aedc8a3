use Rattle.std.proofs.Common.{◌≡◌, map, min, take, slice_index, ap, ◌∙◌, sym, arith}
use Rattle.hx_desk.specs.Rows.{RoomyRows, row_of, row_texts, published_row}
use Rattle.hx_desk.proofs.RowLaws.{row_published}
use Rattle.hx_desk.proofs.rows.Rows.row.Goals as goal

pub returns-clause-replies : goal.returns-clause-replies
returns-clause-replies c =
    let rows = c.self.inside.rows.items in
    let published_end = c.self.inside.published_end.items in
    let small = c.get-row_index.ensures.range in
    row_published rows published_end c.get-row_index.result c.index-row.result.now c.deref.result.now c.index.result.now c.min-published_end.result
    (omega (arith, small, c.get-row_index.ensures.value, c.self.invariant.0)) (omega (arith, small, c.get-row_index.ensures.value, c.self.invariant.2))
    c.index-row.ensures c.deref.ensures.value c.index.ensures
    (c.min-published_end.ensures ∙ ap (min c.index.result.now) (c.len.ensures ∙ sym c.deref.ensures.len))
    ∙ ap (λ p. take (slice_index published_end p) (row_of (map row_texts rows) p)) c.get-row_index.ensures.value
    ∙ ap (λ (v : RoomyRows). published_row v c.args.member) c.self.view_is
