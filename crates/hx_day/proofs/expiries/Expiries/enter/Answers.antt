use Rattle.hx_day.proofs.Held.{holds_also}
use Rattle.hx_day.proofs.expiries.Expiries.enter.Goals as goal

pub returns-clause-ok : goal.returns-clause-ok
returns-clause-ok c = rw (← c.self.view_is) (holds_also c.self.inside.entries c.insert.new.self c.args.expiry c.args.index c.in_ok-insert.ensures.updates)
