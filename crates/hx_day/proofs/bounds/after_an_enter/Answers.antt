use Rattle.hx_day.proofs.AfterEnter.{sound_accepted, sound_rejected}
use Rattle.hx_day.proofs.bounds.after_an_enter.Goals as goal

pub returns-clause-accepted : goal.returns-clause-accepted
returns-clause-accepted c = sound_accepted

pub returns-clause-rejected : goal.returns-clause-rejected
returns-clause-rejected c = sound_rejected
