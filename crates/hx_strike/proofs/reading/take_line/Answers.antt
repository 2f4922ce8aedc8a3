use Rattle.std.proofs.Common.{List, ◌+◌, length, subst, ap, sym, ◌∙◌}
use Rattle.hx_audit.specs.declared.bearing.Bearing.{Bearing}
use Rattle.hx_replay.specs.declared.fault.TapeError.{TapeError}
use Rattle.hx_tape_lines.specs.Events.{IsLineOf, IsNoLine}
use Rattle.hx_strike.specs.Taking.{Takes, IsFaultOf}
use Rattle.hx_tape_lines.proofs.Lines.{some_of, none_of}
use Rattle.hx_strike.proofs.Taken.{takes_more, no_event, refused_line}
use Rattle.hx_strike.proofs.reading.take_line.Goals as goal

pub returns-in_default-clause-err : goal.returns-in_default-clause-err
returns-in_default-clause-err c all others lacks t =
    rw (c.bad_line.ensures, c.deref-in_default.ensures.value)
    (no_event c.args.auditor.now c.args.bearings.now.items all c.args.text.now others t lacks
    (none_of (IsNoLine c.args.text.now) c.in_ok-event.field-0 c.in_default.is c.in_ok-event.ensures.none))

pub returns-in-Err-clause-err : goal.returns-in-Err-clause-err
returns-in-Err-clause-err c all others lacks t =
    let found = some_of (IsLineOf c.args.text.now) c.in_ok-event.field-0 c.in-Some.event c.in-Some.is c.in_ok-event.ensures.some in
    subst (λ (e : TapeError). IsFaultOf ⊥ c.args.auditor.now.setup all e) (sym c.fault_of.ensures)
    (refused_line c.args.auditor.now c.args.bearings.now.items all c.args.text.now others c.in-Some.event _ c.in-Err.error t found lacks c.in-Err.ensures.refused (c.next_line-number.ensures ∙ ap (λ (bs : List Bearing). length bs + 1) c.deref.ensures.value))

pub returns-clause-ok : goal.returns-clause-ok
returns-clause-ok c all others t =
    let found = some_of (IsLineOf c.args.text.now) c.in_ok-event.field-0 c.in-Some.event c.in-Some.is c.in_ok-event.ensures.some in
    subst (λ (bs : List Bearing). Takes c.take.new.self bs all others) (sym c.in_ok-push.ensures.items)
    (takes_more c.args.auditor.now c.take.new.self c.args.bearings.now.items c.of.result all c.args.text.now others c.in-Some.event t found c.in_default-take.ensures.taken c.of.ensures)
