use Rattle.std.proofs.Common.{◌≡◌, ◌++◌, map, sym, subst, IfSome}
use Rattle.hx_journal.specs.Lines.{text_of}
use Rattle.hx_tape_lines.specs.Text.{record_of}
use Rattle.hx_tape_lines.specs.Events.{IsLineOf}
use Rattle.hx_recovery.proofs.Reading.{read_more}
use Rattle.hx_recovery.proofs.going_on.read_events.Goals as goal

pub loop-line-preserved : goal.loop-line-preserved
loop-line-preserved g c =
    let cut = c.in-Some in
    let its_line = subst (λ o. IfSome o (IsLineOf cut.line.now)) c.in-Some-2.is c.in_ok-event.ensures.some in
    subst (λ items. c.args.tape.now ≡ text_of (map record_of items) ++ cut.others.now) (sym c.in_ok-push.ensures.items)
    (read_more c.loop-line.events.items c.in-Some-2.event c.args.tape.now cut.line.now c.loop-line.rest.now cut.others.now c.loop-line.invariant cut.ensures.some.0 its_line)
