-- Numbers in decimal.
use Rattle.std.proofs.Common.{◌≡◌, ℕ, ◌^◌, ◌<◌, List, Option, Some, None, Bool, true, false, cond, ◌&&◌, refl, ap, ◌∙◌, arith}
use Rattle.std.specs.Prelude.{◌≢◌, IfSome, IfNone, nat_lt, bytes_eq}
use Rattle.std.specs.Fmt.{decimal}
use Rattle.std.specs.Str.Parse.{digits_value}
use Rattle.std.proofs.lemmas.Bool.{and_parts, ltb-true, lt-ltb}
use Rattle.std.proofs.lemmas.Fmt.{decimal_is_IsNumeral}
use Rattle.std.proofs.lemmas.Slice.Eq.{bytes_eq-Decides}
use Rattle.hx_operator.specs.Names.{number_of}

none_where : (b : Bool) (n : ℕ) → (b ≡ true → ⊥) → None ≡ cond b (Some n) None
none_where true n h = absurd (h refl)
none_where false n h = refl

-- what a reader of decimal numbers answers is the number of the word
pub number_read : (w : List ℕ) (r : Option ℕ) → IfSome r (λ n. (n < 10 ^ 14) × (w ≡ decimal n)) → IfNone r ((n : ℕ) → n < 10 ^ 14 → w ≢ decimal n) → r ≡ number_of w
number_read w (Some n) some none =
    let value : digits_value 10 w ≡ n = ap (digits_value 10) some.1 ∙ (decimal_is_IsNumeral n (omega (arith, some.0))).1 in
    let same : bytes_eq w (decimal n) ≡ true = (bytes_eq-Decides w (decimal n)).1 some.1 in
    let small : nat_lt n (10 ^ 14) ≡ true = lt-ltb n (10 ^ 14) some.0 in
    rw (value, small, same) refl
number_read w None some none =
    let v : ℕ = digits_value 10 w in
    none_where (nat_lt v (10 ^ 14) && bytes_eq w (decimal v)) v
    (λ e. let t = and_parts (nat_lt v (10 ^ 14)) (bytes_eq w (decimal v)) e in
    none v (ltb-true v (10 ^ 14) t.0) ((bytes_eq-Decides w (decimal v)).0 t.1))
