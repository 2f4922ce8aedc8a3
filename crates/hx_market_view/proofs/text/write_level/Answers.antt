use Rattle.std.proofs.Common.{rules, append_assoc}
use Rattle.hx_market_view.specs.Texts.{level_tokens}
use Rattle.hx_market_view.proofs.text.write_level.Goals as goal

pub returns : goal.returns
unfolding level_tokens
returns c = search (rules, append_assoc)
