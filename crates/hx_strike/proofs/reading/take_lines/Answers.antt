use Rattle.std.proofs.Common.{subst}
use Rattle.std.proofs.lemmas.Result.{err_from_is_err_and}
use Rattle.hx_members.specs.Setups.{Setup}
use Rattle.hx_strike.specs.Taking.{Takes, IsFaultOf}
use Rattle.hx_strike.proofs.reading.take_lines.Goals as goal

pub returns-in_err-take_line-clause-err : goal.returns-in_err-take_line-clause-err
returns-in_err-take_line-clause-err c =
    let p = err_from_is_err_and c.from_residual.result c.from_residual.ensures.1 in
    let l = c.loop-line in
    let some = c.in-Some.ensures.some in
    rw (p.1, p.2)
    (λ all t. subst (λ (s : Setup). IsFaultOf ⊥ s all c.in_err-take_line.field-0.0) l.invariant.setup
    (c.in_err-take_line.ensures.err all c.in-Some.others.now some.1
    (subst (Takes l.auditor l.bearings.items all) some.0 (l.invariant.taken all t))))
