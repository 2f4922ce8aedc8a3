use Rattle.hx_day.proofs.AfterReplace.{sound_lessened, sound_filtered}
use Rattle.hx_day.proofs.bounds.after_a_cancel.Goals as goal

pub returns-clause-canceled : goal.returns-clause-canceled
returns-clause-canceled c = sound_lessened

pub returns-clause-ended : goal.returns-clause-ended
returns-clause-ended c = sound_filtered
