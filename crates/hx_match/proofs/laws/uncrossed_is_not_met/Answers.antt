use Rattle.hx_match.proofs.Unmet.{unmet}
use Rattle.hx_match.proofs.laws.uncrossed_is_not_met.Goals as goal

pub returns : goal.returns
returns c = unmet
