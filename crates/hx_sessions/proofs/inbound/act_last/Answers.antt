use Rattle.std.proofs.Common.{inr}
use Rattle.hx_sessions.proofs.Taking.{acting_cut}
use Rattle.hx_sessions.proofs.inbound.act_last.Goals as goal

pub returns-in-Ok-clause-acted : goal.returns-in-Ok-clause-acted
returns-in-Ok-clause-acted g c =
    let e = c.in-Ok.ensures.acted in
    (e.0, e.1, inr (acting_cut c.args.packets.items e.0 e.2))
