use Rattle.hx_replay.proofs.NoTrace.{tells_nothing}
use Rattle.hx_replay.proofs.laws.tells_nothing.Goals as goal

pub returns : goal.returns
returns c = tells_nothing
