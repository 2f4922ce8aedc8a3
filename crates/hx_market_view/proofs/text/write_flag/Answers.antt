use Rattle.std.proofs.Common.{rules, append_assoc}
use Rattle.hx_market_view.specs.Texts.{boolean_member}
use Rattle.hx_market_view.proofs.text.write_flag.Goals as goal

pub returns : goal.returns
unfolding boolean_member
returns c = search (rules, append_assoc)
