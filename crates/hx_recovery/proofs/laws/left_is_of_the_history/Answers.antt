use Rattle.hx_recovery.proofs.Recovering.{left_is_of_the_history}
use Rattle.hx_recovery.proofs.laws.left_is_of_the_history.Goals as goal

pub returns : goal.returns
returns c = left_is_of_the_history
