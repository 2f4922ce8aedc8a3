use Rattle.std.proofs.Common.{◌≡◌, ◌<◌, ◌≤◌, length, sym, ap, ◌∙◌, get_or, refl, take, arith, ltb-true, ltb-false, true}
use Rattle.std.specs.Char.{is_ascii_digit}
use Rattle.std.proofs.lemmas.List.{length-take}
use Rattle.std.proofs.lemmas.Grind.{get_or_default_zero}
use Rattle.std.proofs.lemmas.Int.Digits.{digits_value_more, digits_more}
use Rattle.hx_units.proofs.Decimals.{digit_value_of, digit_value_small, decimal_size, value_small}
use Rattle.hx_tape_lines.proofs.Fronts.{within_number, number_longer}
use Rattle.hx_tape_lines.proofs.decimal.split_from.Goals as goal

pub overflow_mul-number : goal.overflow_mul-number
overflow_mul-number c = omega (arith, c.loop-at.invariant.value, value_small (take c.loop-at.at c.args.text.now) (omega (arith, length-take c.loop-at.at c.args.text.now)) c.loop-at.invariant.digits)

pub overflow_add-number : goal.overflow_add-number
overflow_add-number c = omega (arith, c.loop-at.invariant.value, value_small (take c.loop-at.at c.args.text.now) (omega (arith, length-take c.loop-at.at c.args.text.now)) c.loop-at.invariant.digits)

pub loop-at-preserved : goal.loop-at-preserved
loop-at-preserved c =
    let inside : c.loop-at.at < length c.args.text.now = ltb-true _ _ (sym c.in_ok-byte.ensures.lookup.0) in
    let byte : c.in_ok-byte.field-0.now ≡ get_or c.args.text.now c.loop-at.at 0 = c.in_ok-byte.ensures.lookup.1 ∙ get_or_default_zero c.args.text.now c.loop-at.at _ inside in
    let digit : is_ascii_digit (get_or c.args.text.now c.loop-at.at 0) ≡ true = ap is_ascii_digit (sym byte) ∙ sym c.if-not-is_ascii_digit.ensures.value in
    let more = digits_value_more 10 c.args.text.now c.loop-at.at inside in
    let is = digit_value_of (get_or c.args.text.now c.loop-at.at 0) digit in
    record {
      value = rw (more, is, ← c.loop-at.invariant.value, c.from.ensures, byte) refl;
      digits = digits_more 10 c.args.text.now c.loop-at.at inside c.loop-at.invariant.digits (digit_value_small (get_or c.args.text.now c.loop-at.at 0) digit);
    }

pub returns-clause-none : goal.returns-clause-none
returns-clause-none c = λ n rest lt is. within_number c.args.text.now rest c.loop-at.at n is c.loop-at.invariant.digits (omega (arith, (decimal_size n lt).1, c.loop-at-test.false))

pub returns-in_err-byte-clause-none : goal.returns-in_err-byte-clause-none
returns-in_err-byte-clause-none c = rw c.from_residual.ensures (λ n rest lt is.
    let beyond : length c.args.text.now ≤ c.loop-at.at = ltb-false _ _ (sym c.in_err-byte.ensures.lookup.0) in
    within_number c.args.text.now rest c.loop-at.at n is c.loop-at.invariant.digits (omega (arith, beyond, number_longer c.args.text.now rest n is)))
