use Rattle.hx_sessions.proofs.RunLaws.{brings_all}
use Rattle.hx_sessions.proofs.laws.frames_in_order.Goals as goal

pub returns : goal.returns
returns c = brings_all
