use Rattle.hx_setup.proofs.TextLaws.{one_bad}
use Rattle.hx_setup.proofs.laws.one_bad_line.Goals as goal

pub returns : goal.returns
returns c = one_bad
