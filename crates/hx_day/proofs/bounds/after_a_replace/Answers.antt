use Rattle.hx_day.proofs.AfterReplace.{sound_replaced, sound_handed}
use Rattle.hx_day.proofs.bounds.after_a_replace.Goals as goal

pub returns-clause-replaced : goal.returns-clause-replaced
returns-clause-replaced c = sound_replaced

pub returns-clause-failed : goal.returns-clause-failed
returns-clause-failed c = sound_handed
