use Rattle.hx_laws.proofs.Quiet.StruckChoices as choices
use Rattle.hx_laws.proofs.choices.Goals as goal

pub returns : goal.returns
returns c = record { listed = choices.listed_is_choice; all = choices.quiet_is_choice }
