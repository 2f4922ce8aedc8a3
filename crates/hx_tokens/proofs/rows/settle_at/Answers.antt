use Rattle.std.proofs.Common.{sym, ap, ◌∙◌}
use Rattle.std.specs.Option.{option_copied_mut}
use Rattle.indexmap.specs.IndexMap.{set_value_at}
use Rattle.hx_tokens.specs.Rows.{with_key}
use Rattle.hx_tokens.proofs.Indexes.{written}
use Rattle.hx_tokens.proofs.rows.settle_at.Goals as goal

pub returns-in-Some-clause-entries : goal.returns-in-Some-clause-entries
returns-in-Some-clause-entries c =
    let entries = c.args.tokens.now.entries in
    ap (λ u. set_value_at entries c.args.index u) c.settle.ensures
    ∙ written (with_key c.args.key) c.args.index entries c.in-Some.used.now (sym c.get_index_mut.ensures.value ∙ ap option_copied_mut c.in-Some.is)
