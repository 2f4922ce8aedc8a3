use Rattle.hx_day.proofs.Held.{nothing_held}
use Rattle.hx_day.proofs.expiries.Expiries.new.Goals as goal

pub returns : goal.returns
returns c = nothing_held c.new.result.keys c.new.ensures.empty
