use Rattle.hx_setup.specs.SetupText.{member_fields}
use Rattle.hx_setup.proofs.Spelling.{member_rest, member_made, cut_next, cut_none}
use Rattle.hx_setup.proofs.lines.split_member.Goals as goal

pub returns-in_err-later-clause-none : goal.returns-in_err-later-clause-none
unfolding member_fields
returns-in_err-later-clause-none c = rw c.from_residual.ensures (λ n f u p l are. c.in_err-later.ensures.none _ are.of_line)

pub returns-in_err-number-clause-none : goal.returns-in_err-number-clause-none
returns-in_err-number-clause-none c = rw c.from_residual-in_err-number.ensures (λ n f u p l are.
    let r1 = member_rest c.args.line.now c.in_ok-later.field-0.now n f u p l c.in_ok-later.ensures.some are in
    cut_none _ _ _ r1 c.in_err-number.ensures.none)

pub returns-in_err-firm-clause-none : goal.returns-in_err-firm-clause-none
returns-in_err-firm-clause-none c = rw c.from_residual-in_err-firm.ensures (λ n f u p l are.
    let r1 = member_rest c.args.line.now c.in_ok-later.field-0.now n f u p l c.in_ok-later.ensures.some are in
    let r2 = cut_next _ c.in_ok-number.number.now c.in_ok-number.rest.now _ _ r1 are.number c.in_ok-number.ensures.some in
    cut_none _ _ _ r2.1 c.in_err-firm.ensures.none)

pub returns-in_err-user-clause-none : goal.returns-in_err-user-clause-none
returns-in_err-user-clause-none c = rw c.from_residual-in_err-user.ensures (λ n f u p l are.
    let r1 = member_rest c.args.line.now c.in_ok-later.field-0.now n f u p l c.in_ok-later.ensures.some are in
    let r2 = cut_next _ c.in_ok-number.number.now c.in_ok-number.rest.now _ _ r1 are.number c.in_ok-number.ensures.some in
    let r3 = cut_next _ c.in_ok-firm.firm.now c.in_ok-firm.rest.now _ _ r2.1 are.firm c.in_ok-firm.ensures.some in
    cut_none _ _ _ r3.1 c.in_err-user.ensures.none)

pub returns-in_err-password-clause-none : goal.returns-in_err-password-clause-none
returns-in_err-password-clause-none c = rw c.from_residual-in_err-password.ensures (λ n f u p l are.
    let r1 = member_rest c.args.line.now c.in_ok-later.field-0.now n f u p l c.in_ok-later.ensures.some are in
    let r2 = cut_next _ c.in_ok-number.number.now c.in_ok-number.rest.now _ _ r1 are.number c.in_ok-number.ensures.some in
    let r3 = cut_next _ c.in_ok-firm.firm.now c.in_ok-firm.rest.now _ _ r2.1 are.firm c.in_ok-firm.ensures.some in
    let r4 = cut_next _ c.in_ok-user.user.now c.in_ok-user.rest.now _ _ r3.1 are.user c.in_ok-user.ensures.some in
    cut_none _ _ _ r4.1 c.in_err-password.ensures.none)

pub returns-clause-some : goal.returns-clause-some
returns-clause-some c =
    member_made c.args.line.now c.in_ok-later.field-0.now c.in_ok-number.rest.now c.in_ok-firm.rest.now c.in_ok-user.rest.now
    c.in_ok-number.number.now c.in_ok-firm.firm.now c.in_ok-user.user.now c.in_ok-password.password.now c.in_ok-password.limit.now
    c.in_ok-later.ensures.some c.in_ok-number.ensures.some c.in_ok-firm.ensures.some c.in_ok-user.ensures.some c.in_ok-password.ensures.some
