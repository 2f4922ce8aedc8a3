use Rattle.std.proofs.Common.{rules, append_assoc}
use Rattle.hx_market_view.proofs.status.feed_text.Goals as goal

pub returns : goal.returns
returns c = search (rules, append_assoc)
