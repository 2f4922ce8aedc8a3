use Rattle.std.proofs.Common.{rules, append_assoc}
use Rattle.hx_market_view.specs.Texts.{string_member}
use Rattle.hx_market_view.proofs.text.write_name.Goals as goal

pub returns : goal.returns
unfolding string_member
returns c = search (rules, append_assoc)
