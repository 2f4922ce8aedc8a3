use Rattle.std.proofs.Common.{arith, sym, ap, ◌∙◌, get_or, refl, subst}
use Rattle.std.specs.Str.Parse.{digits_value, AllDigits}
use Rattle.std.proofs.lemmas.Int.Digits.{digits_value_more, digits_more}
use Rattle.std.proofs.lemmas.List.{take_all}
use Rattle.std.proofs.lemmas.Str.Parse.{digit_at}
use Rattle.hx_units.proofs.Decimals.{value_small_front, digit_value_of, digit_value_small, is_digit}
use Rattle.hx_units.proofs.decimal.value_of.Goals as goal

pub returns-then-not-is_ascii_digit-clause-none : goal.returns-then-not-is_ascii_digit-clause-none
returns-then-not-is_ascii_digit-clause-none c = λ all.
    let range = digit_at c.args.digits.now c.loop-digit.digit-index all c.loop-digit-test.true in
    let digit = is_digit (get_or c.args.digits.now c.loop-digit.digit-index 0) (omega (arith, range)) (omega (arith, range)) in
    absurd (cc (c.if-not-is_ascii_digit.ensures.value))

pub overflow_mul-number : goal.overflow_mul-number
overflow_mul-number c = omega (arith, value_small_front c.args.digits.now c.loop-digit.digit-index (omega arith) c.loop-digit.invariant.digits)

pub overflow_add-number : goal.overflow_add-number
overflow_add-number c = omega (arith, value_small_front c.args.digits.now c.loop-digit.digit-index (omega arith) c.loop-digit.invariant.digits)

pub loop-digit-preserved : goal.loop-digit-preserved
loop-digit-preserved c =
    let digit = sym c.if-not-is_ascii_digit.ensures.value in
    let more = digits_value_more 10 c.args.digits.now c.loop-digit.digit-index c.loop-digit-test.true in
    let is = digit_value_of (get_or c.args.digits.now c.loop-digit.digit-index 0) digit in
    record {
      value = rw (more, is, ← c.loop-digit.invariant.value, c.from.ensures) refl;
      digits = digits_more 10 c.args.digits.now c.loop-digit.digit-index c.loop-digit-test.true c.loop-digit.invariant.digits (digit_value_small (get_or c.args.digits.now c.loop-digit.digit-index 0) digit);
    }

pub returns-clause-some : goal.returns-clause-some
returns-clause-some c =
    let whole = take_all c.loop-digit.digit-index c.args.digits.now c.loop-digit-test.false in (
      omega (arith, value_small_front c.args.digits.now c.loop-digit.digit-index (omega arith) c.loop-digit.invariant.digits),
      c.loop-digit.invariant.value ∙ ap (digits_value 10) whole,
      subst (AllDigits 10) whole c.loop-digit.invariant.digits,
    )
