use Rattle.std.proofs.Common.{◌≡◌, ℕ, List, ◌+◌, ◌∷◌, ◌++◌, length, get_or, sym, ap, ◌∙◌, arith}
use Rattle.std.specs.Fmt.{decimal}
use Rattle.hx_units.proofs.Decimals.{decimal_size, decimal_front}
use Rattle.std.proofs.lemmas.List.{get_or_append_left}
use Rattle.std.proofs.lemmas.Slice.{between_to_end}
use Rattle.hx_tape_lines.proofs.Fronts.{number_end, space_after, front_is}
use Rattle.hx_tape_lines.proofs.decimal.whole.Goals as goal
use Rattle.hx_tape_lines.proofs.decimal.whole.Goals.{then-text-at-ne32-via-then-text-at-ne32, then-text-at-ne32-via-else-text-at-ne32+then-at-eq0, else-text-eq48-via-then-text-eq48+else-at-gt1, else-text-eq48-via-else-text-eq48}

pub returns-then-text-at-ne32-clause-none : goal.returns-then-text-at-ne32-clause-none
returns-then-text-at-ne32-clause-none c = λ n rest lt is.
    let end = number_end c.args.text.now rest c.args.at n lt is c.requires.digits c.requires.ends in
    elim c.then-text-at-ne32.branch [
      | then-text-at-ne32-via-then-text-at-ne32 w ↦ w.if-text-at-ne32.true (ap (λ (k : ℕ). get_or c.args.text.now k 0) end ∙ space_after c.args.text.now rest n is)
      | then-text-at-ne32-via-else-text-at-ne32+then-at-eq0 w ↦ omega (arith, end, (decimal_size n lt).0, w.if-at-eq0.true)
    ]

pub returns-then-at-gt1-clause-none : goal.returns-then-at-gt1-clause-none
returns-then-at-gt1-clause-none c = λ n rest lt is.
    let end = number_end c.args.text.now rest c.args.at n lt is c.requires.digits c.requires.ends in
    let first : get_or c.args.text.now 0 0 ≡ get_or (decimal n) 0 0 = ap (λ (t : List ℕ). get_or t 0 0) is ∙ get_or_append_left (decimal n) (32 ∷ rest) 0 0 (decimal_size n lt).0 in
    let one = decimal_front n lt (sym first ∙ c.if-text-eq48.true) in
    omega (arith, end, one, c.if-at-gt1.true)

pub returns-clause-some : goal.returns-clause-some
returns-clause-some c =
    let nought : get_or c.args.text.now 0 0 ≡ 48 → c.args.at ≡ 1 = λ e. elim c.else-text-eq48.branch [
      | else-text-eq48-via-then-text-eq48+else-at-gt1 w ↦ omega (arith, w.if-at-gt1.false, c.if-at-eq0.false)
      | else-text-eq48-via-else-text-eq48 w ↦ absurd (w.if-text-eq48.false e)
    ] in
    let front = front_is c.args.text.now c.args.at c.args.number c.requires.here.0 c.requires.value c.requires.digits c.requires.here.1 (omega (arith, c.if-at-eq0.false)) c.if-text-at-ne32.false nought in
    (front.0, front.1 ∙ ap (λ (l : List ℕ). decimal c.args.number ++ 32 ∷ l) (sym (between_to_end c.args.text.now (c.args.at + 1) (length c.args.text.now) (omega arith))))
