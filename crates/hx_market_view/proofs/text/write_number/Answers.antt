use Rattle.std.proofs.Common.{rules, append_assoc}
use Rattle.hx_market_view.specs.Texts.{number_member}
use Rattle.hx_market_view.proofs.text.write_number.Goals as goal

pub returns : goal.returns
unfolding number_member
returns c = search (rules, append_assoc)
