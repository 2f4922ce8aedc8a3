use Rattle.hx_day.proofs.Held.{holds_others}
use Rattle.hx_day.proofs.expiries.Expiries.leave.Goals as goal

pub returns : goal.returns
returns c = rw (← c.self.view_is) (holds_others c.self.inside.entries c.remove.new.self c.args.expiry c.args.index c.remove.ensures.updates)
