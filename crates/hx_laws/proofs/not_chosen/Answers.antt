use Rattle.hx_laws.proofs.Quiet.RetainedChoices as choices
use Rattle.hx_laws.proofs.not_chosen.Goals as goal

pub returns : goal.returns
returns c = choices.not_chosen
