use Rattle.std.proofs.lemmas.Result.{err_from_is_err_and}
use Rattle.hx_strike.proofs.Leaving.{tape_of, strikes_all, strikes_some, echoes}
use Rattle.hx_strike.proofs.strike.strike_lines.Goals as goal

pub returns-in_err-events-clause-err : goal.returns-in_err-events-clause-err
returns-in_err-events-clause-err g c =
    let p = err_from_is_err_and c.from_residual-in_err-events.result c.from_residual-in_err-events.ensures.1 in
    let tape = c.in_ok-tape.tape in
    let r = c.in_ok-tape.ensures in
    let some = c.in_err-events.ensures.err (tape_of tape.auditor tape.bearings.items c.deref.result.now tape.text.items c.deref-2.result.now r.taken c.deref.ensures.value c.deref-2.ensures.value) in
    rw (p.1, p.2, c.in_err-events.ensures.fault)
    (strikes_some c.args.setup.now c.args.whose tape.auditor tape.bearings.items tape.text.items some.0 _ _ _ _ r.setup r.whose r.taken r.read r.at_end some.1 some.2)

pub returns-clause-ok : goal.returns-clause-ok
returns-clause-ok g c =
    let tape = c.in_ok-tape.tape in
    let r = c.in_ok-tape.ensures in
    let t = tape_of tape.auditor tape.bearings.items c.deref.result.now tape.text.items c.deref-2.result.now r.taken c.deref.ensures.value c.deref-2.ensures.value in
    strikes_all c.args.setup.now c.args.whose tape.auditor tape.bearings.items tape.text.items c.in_ok-events.events _ _ _ _ r.setup r.whose r.taken r.read r.at_end (c.in_ok-events.ensures.count t) (c.in_ok-events.ensures.ok t)

pub returns-clause-stranger : goal.returns-clause-stranger
returns-clause-stranger g c =
    let tape = c.in_ok-tape.tape in
    let r = c.in_ok-tape.ensures in
    echoes c.args.setup.now c.args.whose tape.auditor c.deref-2.result.now tape.text.items _ _ _ _ r.setup r.whose c.deref-2.ensures.value r.read c.in_ok-events.ensures.stranger
