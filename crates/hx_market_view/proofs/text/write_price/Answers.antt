use Rattle.std.proofs.Common.{rules, append_assoc}
use Rattle.hx_market_view.specs.Texts.{price_member, number_member}
use Rattle.hx_market_view.proofs.text.write_price.Goals as goal

pub returns-in-Some : goal.returns-in-Some
unfolding price_member number_member
returns-in-Some c = search (rules, append_assoc)

pub returns-in-None : goal.returns-in-None
unfolding price_member number_member
returns-in-None c = search (rules, append_assoc)
