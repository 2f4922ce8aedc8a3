use Rattle.hx_match.proofs.First.{none_is_left}
use Rattle.hx_match.proofs.laws.none_is_left.Goals as goal

pub returns : goal.returns
returns c = none_is_left
