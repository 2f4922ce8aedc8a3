-- The number in front of a text, followed by a space.
use Rattle.std.proofs.Common.{◌≡◌, ℕ, suc, ◌+◌, ◌^◌, ◌<◌, ◌≤◌, List, ◌∷◌, ◌++◌, length, take, drop, get_or, sym, ap, ◌∙◌, arith, drop-cons, take-append-drop, true≢false, inl, inr}
use Rattle.std.specs.Prelude.{false, ◌⊎◌}
use Rattle.std.specs.Fmt.{decimal}
use Rattle.std.specs.Char.{is_ascii_digit}
use Rattle.std.specs.Str.Parse.{digits_value, AllDigits}
use Rattle.std.proofs.lemmas.Bool.{cases_lt}
use Rattle.std.proofs.lemmas.List.{get_or_append_left, get_or-take, length-take, length-take-le, length-append}
use Rattle.std.proofs.Math.Seq.{get_or-append_seam}
use Rattle.std.proofs.lemmas.Fmt.{decimal_is_IsNumeral}
use Rattle.std.proofs.lemmas.Str.Parse.{digit_at}
use Rattle.hx_units.proofs.Decimals.{is_digit, is_decimal, value_small}

-- what stands at the end of a number
pub space_after : (text rest : List ℕ) (n : ℕ) → text ≡ decimal n ++ 32 ∷ rest → get_or text (length (decimal n)) 0 ≡ 32
space_after text rest n is = ap (λ (t : List ℕ). get_or t (length (decimal n)) 0) is ∙ get_or-append_seam (decimal n) 32 rest 0

-- the text goes on after the number
pub number_longer : (text rest : List ℕ) (n : ℕ) → text ≡ decimal n ++ 32 ∷ rest → length (decimal n) < length text
number_longer text rest n is = omega (arith, ap length is, length-append (decimal n) (32 ∷ rest))

-- digits go no further than the number whose digits a space ends
pub within_number : (text rest : List ℕ) (at n : ℕ) → text ≡ decimal n ++ 32 ∷ rest → AllDigits 10 (take at text) → length (decimal n) < at → ⊥
within_number text rest at n is all beyond =
    let range = digit_at (take at text) (length (decimal n)) all (omega (arith, length-take at text, number_longer text rest n is, beyond)) in
    let same = get_or-take at text (length (decimal n)) 0 beyond in
    omega (arith, range, same, space_after text rest n is)

-- where the digits end, the number ends
pub number_end : (text rest : List ℕ) (at n : ℕ) → n < 10 ^ 14 → text ≡ decimal n ++ 32 ∷ rest → AllDigits 10 (take at text) → is_ascii_digit (get_or text at 0) ≡ false → at ≡ length (decimal n)
number_end text rest at n lt is all ends = which (cases_lt at (length (decimal n))) (cases_lt (length (decimal n)) at)
  where
    before : at < length (decimal n) → ⊥
    before less =
        let same : get_or text at 0 ≡ get_or (decimal n) at 0 = ap (λ (t : List ℕ). get_or t at 0) is ∙ get_or_append_left (decimal n) (32 ∷ rest) 0 at less in
        let range = digit_at (decimal n) at (decimal_is_IsNumeral n (omega (arith, lt))).0.1 less in
        true≢false (sym (is_digit (get_or text at 0) (omega (arith, range, same)) (omega (arith, range, same))) ∙ ends)

    which : (at < length (decimal n)) ⊎ (length (decimal n) ≤ at) → (length (decimal n) < at) ⊎ (at ≤ length (decimal n)) → at ≡ length (decimal n)
    which (inl less) _ = absurd (before less)
    which (inr _) (inl more) = absurd (within_number text rest at n is all more)
    which (inr most) (inr least) = omega (arith, most, least)

-- a text of digits, a space, and what follows it
pub front_is : (text : List ℕ) (at n : ℕ) → at < length text → n ≡ digits_value 10 (take at text) → AllDigits 10 (take at text) → at ≤ 14 → 0 < at → get_or text at 0 ≡ 32 → (get_or text 0 0 ≡ 48 → at ≡ 1)
    → (n < 10 ^ 14) × (text ≡ decimal n ++ 32 ∷ drop (at + 1) text)
front_is text at n inside value all few some here nought =
    let size : length (take at text) ≡ at = length-take-le at text (omega (arith, inside)) in
    let small : n < 10 ^ 14 = omega (arith, value, value_small (take at text) (omega (arith, size, few)) all) in
    let front : take at text ≡ decimal n = is_decimal (take at text) n small value all (omega (arith, size, some)) (λ e. size ∙ nought (sym (get_or-take at text 0 0 some) ∙ e)) in
    let next : suc at ≡ at + 1 = omega arith in
    let rest : drop at text ≡ 32 ∷ drop (at + 1) text = drop-cons text at 0 inside ∙ ap (λ (x : ℕ). x ∷ drop (suc at) text) here ∙ ap (λ (j : ℕ). 32 ∷ drop j text) next in
    (small, sym (take-append-drop at text) ∙ ap (λ (l : List ℕ). take at text ++ l) rest ∙ ap (λ (l : List ℕ). l ++ 32 ∷ drop (at + 1) text) front)
