use Rattle.hx_day.proofs.AfterEnter.{sound_opening, sound_recorded}
use Rattle.hx_day.proofs.bounds.at_the_opening.Goals as goal

pub returns-clause-opening : goal.returns-clause-opening
returns-clause-opening c = sound_opening

pub returns-clause-recorded : goal.returns-clause-recorded
returns-clause-recorded c = sound_recorded
