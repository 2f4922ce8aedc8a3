use Rattle.hx_desk.proofs.Growth as growth
use Rattle.hx_desk.proofs.laws.replies_grow.Goals as goal

pub returns : goal.returns
returns c = growth.replies_grow
