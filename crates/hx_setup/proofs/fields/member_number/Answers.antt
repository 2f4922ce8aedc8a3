use Rattle.std.proofs.Common.{◌≡◌, sym, ◌∙◌, subst, arith}
use Rattle.hx_units.specs.Ranges.{IsMember}
use Rattle.hx_setup.proofs.Words.{decimal-same, small_is_ok, small_is_same, unless}
use Rattle.hx_setup.proofs.fields.member_number.Goals as goal

pub returns-in_err-number-2-clause-none : goal.returns-in_err-number-2-clause-none
returns-in_err-number-2-clause-none c = rw c.from_residual-in_err-number-2.ensures (λ n is e.
    let same : c.in_ok-number.field-0 ≡ n = decimal-same c.in_ok-number.field-0 n (omega arith) (omega (arith, is)) (sym c.in_ok-number.ensures.some.1 ∙ e) in
    small_is_ok c.try_from.result _ _ c.try_from.ensures c.in_err-number-2.ensures.value (omega (arith, is, same)))

pub returns-clause-none : goal.returns-clause-none
returns-clause-none c =
    let retained = small_is_same c.try_from.result _ _ c.in_ok-number-2.number c.try_from.ensures c.in_ok-number-2.ensures.value in
    unless c.of.result (IsMember c.in_ok-number-2.number) _ c.of.ensures.exists.1 (λ no n is e.
    let same : c.in_ok-number.field-0 ≡ n = decimal-same c.in_ok-number.field-0 n (omega arith) (omega (arith, is)) (sym c.in_ok-number.ensures.some.1 ∙ e) in
    no (subst IsMember (sym same ∙ sym retained) is))
