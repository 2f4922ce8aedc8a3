use Rattle.hx_recovery.proofs.Recovering.{at_any_moment, vouched_is_covered}
use Rattle.hx_recovery.proofs.laws.known_is_left.Goals as goal

pub returns : goal.returns
returns c = record { at_any_moment = at_any_moment; vouched = vouched_is_covered }
