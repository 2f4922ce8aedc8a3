use Rattle.std.proofs.Common.{◌≡◌, ℕ, List, map, take, length, ◌++◌, sym, ap, subst, ◌∙◌, arith, true≢false}
use Rattle.hex.specs.Hex.{encode_lower, IsBytes}
use Rattle.hx_tape_lines.specs.Digits.{value_of, AreValues, joined}
use Rattle.hx_tape_lines.proofs.Values.{block_values, front_values, back_values, joined_bytes, front_half, back_half}
use Rattle.hx_tape_lines.proofs.vectors.block_bytes.Goals as goal
use Rattle.hx_tape_lines.proofs.vectors.block_bytes.Goals.{then-not-are_values-via-then-not-are_values, then-not-are_values-via-else-not-are_values+then-not-are_values-2}

pub returns-then-not-are_values-clause-none : goal.returns-then-not-are_values-clause-none
returns-then-not-are_values-clause-none c = λ others fits is.
    let long : length c.args.digits ≡ 32 = omega (arith, c.well_formed) in
    let front = c.values-front.ensures ∙ ap (map value_of) (front_half c.args.digits long) in
    let back = c.values-back.ensures ∙ ap (map value_of) (back_half c.args.digits long) in
    elim c.then-not-are_values.branch [
      | then-not-are_values-via-then-not-are_values w ↦ true≢false (sym (c.are_values.ensures.1 (subst AreValues (sym front) (front_values c.args.digits others fits is))) ∙ w.if-not-are_values.true)
      | then-not-are_values-via-else-not-are_values+then-not-are_values-2 w ↦ true≢false (sym (w.are_values-else-not-are_values.ensures.1 (subst AreValues (sym back) (back_values c.args.digits others fits is))) ∙ w.if-not-are_values-2.true)
    ]

pub returns-clause-some : goal.returns-clause-some
returns-clause-some c =
    let long : length c.args.digits ≡ 32 = omega (arith, c.well_formed) in
    let front = c.values-front.ensures ∙ ap (map value_of) (front_half c.args.digits long) in
    let back = c.values-back.ensures ∙ ap (map value_of) (back_half c.args.digits long) in
    let halves = ap (λ (l : List ℕ). l ++ c.values-back.result) front ∙ ap (λ (l : List ℕ). map value_of (take 16 c.args.digits) ++ l) back in
    let first = subst AreValues front (c.are_values.ensures.0 c.if-not-are_values.false) in
    let second = subst AreValues back (c.are_values-else-not-are_values.ensures.0 c.if-not-are_values-2.false) in (
      block_values c.args.digits first second long ∙ ap (λ (l : List ℕ). encode_lower (joined l)) (sym halves) ∙ ap encode_lower (sym c.joined.ensures),
      subst IsBytes (sym c.joined.ensures) (joined_bytes (c.values-front.result ++ c.values-back.result)),
    )
