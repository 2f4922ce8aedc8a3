use Rattle.std.proofs.Common.{refl}
use Rattle.hx_market_tests.proofs.Computing.{all_of}
use Rattle.hx_market_tests.proofs.worked_days.hours_of_a_day.Goals as goal

pub returns : goal.returns
unfolding all_of
returns c = refl
