use Rattle.hx_laws.proofs.Quiet.StruckChoices as choices
use Rattle.hx_laws.proofs.any_part.Goals as goal

pub returns : goal.returns
returns c = record { listed = choices.any_part; chained = choices.chains_of_any }
