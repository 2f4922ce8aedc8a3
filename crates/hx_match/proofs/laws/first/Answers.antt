use Rattle.hx_match.proofs.First.{first_is_right}
use Rattle.hx_match.proofs.laws.first.Goals as goal

pub returns : goal.returns
returns c = first_is_right
