use Rattle.std.proofs.Common.{sym}
use Rattle.hx_report.proofs.Marking.{took_event}
use Rattle.hx_report.proofs.Tapes.{event_is}
use Rattle.hx_report.proofs.marks.take_line.Goals as goal

pub returns-clause-ok : goal.returns-clause-ok
returns-clause-ok c es e k is took =
    let x = c.in-Some.event in
    let its = rw c.in-Some.is at c.in_ok-event.ensures.some in
    took_event c.take.result c.args.taken.now _ es e x _ (sym c.if-is_err.ensures.value) c.take.ensures.taken c.in_ok-push.ensures.items c.sender_of.ensures c.of.ensures
    (event_is c.args.text.now x e its k is) took
