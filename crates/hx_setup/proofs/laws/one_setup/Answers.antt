use Rattle.hx_setup.proofs.TextLaws.{one_text}
use Rattle.hx_setup.proofs.laws.one_setup.Goals as goal

pub returns : goal.returns
returns c = one_text
