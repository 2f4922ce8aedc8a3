use Rattle.std.proofs.Common.{refl}
use Rattle.hx_market_tests.proofs.Computing.{struck_of}
use Rattle.hx_market_tests.proofs.worked_days.halts_and_breaks_struck.Goals as goal

pub returns : goal.returns
unfolding struck_of
returns c = refl
