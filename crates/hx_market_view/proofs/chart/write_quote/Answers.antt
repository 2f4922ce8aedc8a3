use Rattle.std.proofs.Common.{rules, append_assoc}
use Rattle.hx_market_view.specs.Texts.{quote_tokens}
use Rattle.hx_market_view.proofs.chart.write_quote.Goals as goal

pub returns : goal.returns
unfolding quote_tokens
returns c = search (rules, append_assoc)
