use Rattle.std.proofs.Common.{rules, append_assoc}
use Rattle.hx_market_view.specs.Texts.{trade_tokens}
use Rattle.hx_market_view.proofs.text.write_trade.Goals as goal

pub returns : goal.returns
unfolding trade_tokens
returns c = search (rules, append_assoc)
