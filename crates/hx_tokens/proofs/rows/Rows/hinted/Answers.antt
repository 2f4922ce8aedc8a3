use Rattle.std.proofs.Common.{◌+◌, ◌-◌, ◌%◌, ◌^◌, sym, ap, ◌∙◌}
use Rattle.hx_tokens.specs.Rows.{RowList, is_at}
use Rattle.hx_tokens.proofs.Indexes.{row_index-is_at}
use Rattle.hx_tokens.proofs.rows.Rows.hinted.Goals as goal

pub returns-then-is_at : goal.returns-then-is_at
returns-then-is_at c =
    let at = (c.content.result + (2 ^ 64 - 1)) % 2 ^ 64 in
    row_index-is_at c.args.name c.args.self.now.rows at c.requires (ap (λ (v : RowList). is_at v.rows c.args.name at) (sym c.self.view_is) ∙ sym c.is_at.ensures ∙ c.if-is_at.true)
