use Rattle.hx_sessions.proofs.Taking.{takes_ok, takes_fault}
use Rattle.hx_sessions.proofs.inbound.take.Goals as goal

pub returns-in-Ok-clause-takes : goal.returns-in-Ok-clause-takes
returns-in-Ok-clause-takes g c =
    takes_ok c.args.trader.now.member c.args.framer.now c.feed.new.self c.args.piece.now c.args.sender.now.pass.sent c.act.new.sender.pass.sent c.in-Ok.packets.items c.act.result
    c.in-Ok.ensures.ok c.act.ensures.acted

pub returns-in-Err-TooLong-clause-takes : goal.returns-in-Err-TooLong-clause-takes
returns-in-Err-TooLong-clause-takes g c =
    let e = c.act_last.ensures.acted in
    let h = rw c.in-Err-TooLong.field-0-is at c.in-Err-TooLong.ensures.err in
    takes_fault c.args.trader.now.member c.args.framer.now c.feed.new.self c.args.piece.now c.args.sender.now.pass.sent c.act_last.new.sender.pass.sent c.in-Err-TooLong.before.items c.in-Err-TooLong._bad c.act_last.result e.0 h.1 e.1 e.2

pub returns-in-Err-Empty-clause-takes : goal.returns-in-Err-Empty-clause-takes
returns-in-Err-Empty-clause-takes g c =
    let e = c.act_last-in-Err-Empty.ensures.acted in
    let h = rw c.in-Err-Empty.field-0-is at c.in-Err-Empty.ensures.err in
    takes_fault c.args.trader.now.member c.args.framer.now c.feed.new.self c.args.piece.now c.args.sender.now.pass.sent c.act_last-in-Err-Empty.new.sender.pass.sent c.in-Err-Empty.before.items 0 c.act_last-in-Err-Empty.result e.0 h e.1 e.2
