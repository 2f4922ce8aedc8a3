use Rattle.std.proofs.Common.{refl}
use Rattle.hx_market_tests.proofs.Computing.{all_of}
use Rattle.hx_market_tests.proofs.worked_days.hidden_then_displayed.Goals as goal

pub returns : goal.returns
unfolding all_of
returns c = refl
