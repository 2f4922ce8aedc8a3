use Rattle.std.proofs.Common.{◌≡◌, ◌<◌, ℕ, List, length, get_or, sym, ap, subst, arith}
use Rattle.std.proofs.lemmas.Bool.{eqb-true}
use Rattle.std.specs.Fmt.{decimal}
use Rattle.hx_units.proofs.Decimals.{decimal_size, decimal_front, reads_some, reads_none}
use Rattle.hx_units.proofs.Decimals.{not_empty}
use Rattle.hx_units.proofs.decimal.read_number.Goals as goal
use Rattle.hx_units.proofs.decimal.read_number.Goals.{then-is_empty-via-then-is_empty, then-is_empty-via-else-is_empty+then-digits-gt14, else-digits-eq48-via-then-digits-eq48+else-digits-gt1, else-digits-eq48-via-else-digits-eq48}

pub returns-then-is_empty-clause-none : goal.returns-then-is_empty-clause-none
returns-then-is_empty-clause-none c = λ n lt is.
    let size = decimal_size n lt in
    let same : length c.args.digits.now ≡ length (decimal n) = ap length is in
    elim c.then-is_empty.branch [
      | then-is_empty-via-then-is_empty w ↦ let empty = eqb-true _ _ (sym w.if-is_empty.ensures) in omega (arith, size.0, same, empty)
      | then-is_empty-via-else-is_empty+then-digits-gt14 w ↦ omega (arith, size.1, same, w.if-digits-gt14.true)
    ]

pub returns-then-digits-gt1-clause-none : goal.returns-then-digits-gt1-clause-none
returns-then-digits-gt1-clause-none c = λ n lt is.
    let one = decimal_front n lt (subst (λ (x : List ℕ). get_or x 0 0 ≡ 48) is c.if-digits-eq48.true) in
    let same : length c.args.digits.now ≡ length (decimal n) = ap length is in
    omega (arith, one, same, c.if-digits-gt1.true)

pub returns-clause-some : goal.returns-clause-some
returns-clause-some c =
    let some : 0 < length c.args.digits.now = not_empty c.args.digits.now (sym c.if-is_empty.ensures) in
    let nought : get_or c.args.digits.now 0 0 ≡ 48 → length c.args.digits.now ≡ 1 = λ e. elim c.else-digits-eq48.branch [
      | else-digits-eq48-via-then-digits-eq48+else-digits-gt1 w ↦ omega (arith, some, w.if-digits-gt1.false)
      | else-digits-eq48-via-else-digits-eq48 w ↦ absurd (w.if-digits-eq48.false e)
    ] in
    reads_some c.args.digits.now c.value_of.result some nought c.value_of.ensures.some

pub returns-clause-none : goal.returns-clause-none
returns-clause-none c = reads_none c.args.digits.now c.value_of.result (not_empty c.args.digits.now (sym c.if-is_empty.ensures)) c.value_of.ensures.none
