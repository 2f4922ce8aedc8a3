use Rattle.hx_laws.proofs.Quiet.StruckChoices as choices
use Rattle.hx_laws.proofs.one_member.Goals as goal

pub returns : goal.returns
returns c = choices.one_member
