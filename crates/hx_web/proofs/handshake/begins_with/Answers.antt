use Rattle.hx_web.specs.Handshakes.{begins_with}
use Rattle.hx_web.proofs.handshake.begins_with.Goals as goal

pub returns : goal.returns
unfolding begins_with
returns c = c.starts_with.ensures.value
