-- Numbers in decimal.
use Rattle.std.proofs.Common.{◌≡◌, ℕ, zero, suc, ◌-◌, ◌^◌, ◌<◌, ◌≤◌, List, [], ◌∷◌, length, take, get_or, Option, Some, None, eqb, true, false, sym, ap, ◌∙◌, subst, arith}
use Rattle.std.specs.Prelude.{◌≢◌, IfSome, IfNone}
use Rattle.std.specs.Fmt.{decimal}
use Rattle.std.specs.Char.{is_ascii_digit, digit_value}
use Rattle.std.proofs.lemmas.Bool.Decides.{nat_tests}
use Rattle.std.proofs.lemmas.Grind.{get_or_default_zero}
use Rattle.std.specs.Str.Parse.{digits_value, AllDigits}
use Rattle.std.proofs.lemmas.Int.Digits.{digits_value-lt}
use Rattle.std.proofs.lemmas.List.{length-take}
use Rattle.std.proofs.lemmas.Fmt.{decimal_is_IsNumeral, length-decimal-le, decimal_nonempty, decimal_digit, first_decimal, decimal-digits_value}
use Rattle.std.proofs.lemmas.Str.Parse.{digit_at, IsNumeralModel, numerals_by_value, tells_digits}
use Rattle.std.proofs.Math.Nat.{pow-le-pow_right}
use Rattle.hx_units.specs.Cuts.{Lacks}

pub value_small : (ds : List ℕ) → length ds ≤ 14 → AllDigits 10 ds → digits_value 10 ds < 10 ^ 14
value_small ds short all = omega (arith, digits_value-lt 10 ds all, pow-le-pow_right {n = 10} (omega arith) {i = length ds} {j = 14} short)

pub value_small_front : (ds : List ℕ) (i : ℕ) → length ds ≤ 14 → AllDigits 10 (take i ds) → digits_value 10 (take i ds) < 10 ^ 14
value_small_front ds i short all = value_small (take i ds) (omega (arith, length-take i ds)) all

-- how many digits a number has
pub decimal_size : (n : ℕ) → n < 10 ^ 14 → (0 < length (decimal n)) × (length (decimal n) ≤ 14)
decimal_size n lt = (decimal_nonempty n (omega arith), length-decimal-le 14 n (omega arith) lt (omega arith))

-- the first of them is no 0 if there are more
pub decimal_front : (n : ℕ) → n < 10 ^ 14 → get_or (decimal n) 0 0 ≡ 48 → length (decimal n) ≡ 1
decimal_front zero lt e = ap length (decimal_digit 0 (omega arith))
decimal_front (suc k) lt e = absurd (omega (arith, first_decimal (suc k) (omega arith) (omega arith), e))

own : IsNumeralModel (AllDigits 10) (digits_value 10)
own = numerals_by_value (AllDigits 10) tells_digits

-- digits are those of the number that they write
pub is_decimal : (ds : List ℕ) (n : ℕ) → n < 10 ^ 14 → n ≡ digits_value 10 ds → AllDigits 10 ds → 0 < length ds → (get_or ds 0 0 ≡ 48 → length ds ≡ 1) → ds ≡ decimal n
is_decimal ds n lt is all some nought = sym (ap decimal is ∙ decimal-digits_value own ds all some nought (omega (arith, is)))

-- what a reader of digits answers
pub reads_some : (ds : List ℕ) (r : Option ℕ) → 0 < length ds → (get_or ds 0 0 ≡ 48 → length ds ≡ 1) → IfSome r (λ n. (n < 10 ^ 14) × (n ≡ digits_value 10 ds) × AllDigits 10 ds) → IfSome r (λ n. (n < 10 ^ 14) × (ds ≡ decimal n))
reads_some ds (Some n) some nought h = (h.0, is_decimal ds n h.0 h.1 h.2 some nought)
reads_some ds None some nought h = tt

pub reads_none : (ds : List ℕ) (r : Option ℕ) → 0 < length ds → IfNone r (AllDigits 10 ds → ds ≡ []) → IfNone r ((n : ℕ) → n < 10 ^ 14 → ds ≢ decimal n)
reads_none ds (Some n) some h = tt
reads_none ds None some h = λ n lt is.
    let numeral = decimal_is_IsNumeral n (omega arith) in
    let gone : length ds ≡ 0 = ap length (h (subst (AllDigits 10) (sym is) numeral.0.1)) in
    omega (arith, some, gone)

-- a byte below the digits stands in no number
pub lacks-decimal : (b n : ℕ) → b < 48 → n < 2 ^ 64 → Lacks b (decimal n)
lacks-decimal b n low lt k d below e =
    let numeral = decimal_is_IsNumeral n lt in
    let range = digit_at (decimal n) k numeral.0.1 below in
    omega (arith, range, get_or_default_zero (decimal n) k d below)

pub not_empty : (xs : List ℕ) → eqb (length xs) 0 ≡ false → 0 < length xs
not_empty [] e = absurd cc
not_empty (x ∷ xs) e = omega arith

pub digit_value_of : (c : ℕ) → is_ascii_digit c ≡ true → digit_value c ≡ c - 48
digit_value_of c e = grind (arith, nat_tests)

pub digit_value_small : (c : ℕ) → is_ascii_digit c ≡ true → digit_value c < 10
digit_value_small c e = grind (arith, nat_tests)

pub is_digit : (c : ℕ) → 48 ≤ c → c ≤ 57 → is_ascii_digit c ≡ true
is_digit c low high = grind (arith, nat_tests)
