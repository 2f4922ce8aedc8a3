use Rattle.hx_replay.proofs.NoTrace.{no_trace}
use Rattle.hx_replay.proofs.laws.leaves_no_trace.Goals as goal

pub returns : goal.returns
returns c = no_trace
