use Rattle.std.proofs.Common.{rules, append_assoc}
use Rattle.hx_market_view.specs.Texts.{stock_head}
use Rattle.hx_market_view.proofs.listing.write_head.Goals as goal

pub returns : goal.returns
unfolding stock_head
returns c = search (rules, append_assoc)
