use Rattle.hx_replay.proofs.StruckTapes.{texts_tell_nothing}
use Rattle.hx_replay.proofs.laws.texts_tell_nothing.Goals as goal

pub returns : goal.returns
returns c = texts_tell_nothing
