use Rattle.hx_sessions.proofs.Taking.{acted_some}
use Rattle.hx_sessions.proofs.inbound.act.Goals as goal

pub returns-in-Err-clause-acted : goal.returns-in-Err-clause-acted
returns-in-Err-clause-acted g c =
    let r = c.gather-events.result in
    acted_some c.args.trader.now.member _ _ c.args.packets.items r.events.items r.stop c.in-Err.fault c.gather-events.ensures.gathers c.in-Err.ensures.err
