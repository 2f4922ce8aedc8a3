use Rattle.std.proofs.Common.{◌∙◌}
use Rattle.hx_tokens.proofs.Indexes.{row_index-position}
use Rattle.hx_tokens.proofs.rows.search.Goals as goal

pub returns : goal.returns
returns c = c.get_index_of.ensures.index ∙ row_index-position c.args.name c.args.tokens.now.entries
