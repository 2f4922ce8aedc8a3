-- The words of a line: the cuts of a text, and the numbers and bytes that it is.
use Rattle.std.proofs.Common.{◌≡◌, ℕ, ◌^◌, ◌<◌, ◌≤◌, List, [], ◌∷◌, ◌++◌, length, Option, Some, None, ltb, true, false, ◌&&◌, refl, sym, ap, ◌∙◌, arith}
use denote.Ref.{Bor}
use Rattle.std.specs.Prelude.{◌≢◌, ◌==◌, Ok, IfSome, IfNone, bytes_eq}
use Rattle.std.specs.List.{list_all}
use Rattle.std.specs.Fmt.{decimal}
use Rattle.std.specs.Str.Parse.{digits_value}
use Rattle.std.proofs.lemmas.Bool.{eq-eqb, ne_eqb, lt-ltb, le-leb, ltb-true, and_parts, cond-false, false_from_ne_true}
use Rattle.std.proofs.lemmas.Bool.Decides.{nat_tests}
use Rattle.std.proofs.lemmas.Slice.Eq.{bytes_eq-Decides}
use Rattle.std.proofs.lemmas.List.Elements.{All-head, All-tail}
use Rattle.std.proofs.lemmas.Fmt.{decimal_is_IsNumeral}
use Rattle.hex.specs.Hex.{decode_of}
use Rattle.hx_units.specs.Cuts.{Lacks}
use Rattle.hx_show.specs.Lines.{cut, number_of, is_digit, bytes_of}

bytes_same : (xs ys : List ℕ) → xs ≡ ys → bytes_eq xs ys ≡ true
bytes_same xs ys e = (bytes_eq-Decides xs ys).1 e

pub same_bytes : (xs ys : List ℕ) → bytes_eq xs ys ≡ true → xs ≡ ys
same_bytes xs ys e = (bytes_eq-Decides xs ys).0 e

-- a text is cut at its first such byte
pub cut_at : (b : ℕ) (a x : List ℕ) → Lacks b a → cut b (a ++ b ∷ x) ≡ Some (a, x)
cut_at b [] x p = rw (eq-eqb b b refl) refl
cut_at b (c ∷ a) x p = rw (ne_eqb c b (All-head (λ n. n ≢ b) c a p), cut_at b a x (All-tail (λ n. n ≢ b) c a p)) refl

-- a text without the byte is not cut
pub cut_none : (b : ℕ) (a : List ℕ) → Lacks b a → cut b a ≡ None
cut_none b [] p = refl
cut_none b (c ∷ a) p = rw (ne_eqb c b (All-head (λ n. n ≢ b) c a p), cut_none b a (All-tail (λ n. n ≢ b) c a p)) refl

pub cut_some : (b : ℕ) (text : List ℕ) (o : Option (Bor (List ℕ) × Bor (List ℕ))) → IfSome o (λ p. (text ≡ p.0.now ++ b ∷ p.1.now) × Lacks b p.0.now) → IfSome o (λ p. cut b text ≡ Some (p.0.now, p.1.now))
cut_some b text (Some p) h = ap (cut b) h.0 ∙ cut_at b p.0.now p.1.now h.1
cut_some b text None h = tt

pub cut_else : (b : ℕ) (text : List ℕ) (o : Option (Bor (List ℕ) × Bor (List ℕ))) → IfNone o (Lacks b text) → IfNone o (cut b text ≡ None)
cut_else b text (Some p) h = tt
cut_else b text None h = cut_none b text h

-- the number that a text is in decimal
pub number_some : (ds : List ℕ) (n : ℕ) → n < 10 ^ 14 → ds ≡ decimal n → number_of ds ≡ Some n
number_some ds n lt is =
    let value : digits_value 10 ds ≡ n = ap (digits_value 10) is ∙ (decimal_is_IsNumeral n (omega arith)).1 in
    rw (value, lt-ltb n (10 ^ 14) lt, bytes_same ds (decimal n) is) refl

pub number_none : (ds : List ℕ) → ((n : ℕ) → n < 10 ^ 14 → ds ≢ decimal n) → number_of ds ≡ None
number_none ds none =
    let n : ℕ = digits_value 10 ds in
    let no : (ltb n (10 ^ 14) && bytes_eq ds (decimal n)) ≡ false =
    false_from_ne_true _ (λ h. let p = and_parts (ltb n (10 ^ 14)) (bytes_eq ds (decimal n)) h in none n (ltb-true n (10 ^ 14) p.0) (same_bytes ds (decimal n) p.1)) in
    cond-false _ (Some n) None no

pub number_reads : (ds : List ℕ) (r : Option ℕ) → IfSome r (λ n. (n < 10 ^ 14) × (ds ≡ decimal n)) → IfNone r ((n : ℕ) → n < 10 ^ 14 → ds ≢ decimal n) → r ≡ number_of ds
number_reads ds (Some n) some none = sym (number_some ds n some.0 some.1)
number_reads ds None some none = sym (number_none ds none)

pub not_empty : (xs : List ℕ) → (length xs == 0) ≡ false → 0 < length xs
not_empty xs e = grind (arith, nat_tests)

-- the bytes that a text is in hexadecimal
pub bytes_some : (ds bytes : List ℕ) → 0 < length ds → length ds ≤ 2046 → list_all is_digit ds ≡ true → decode_of ds ≡ Ok bytes → bytes_of ds ≡ Some bytes
bytes_some ds bytes some few lower ok = rw (lt-ltb 0 (length ds) some, le-leb (length ds) 2046 few, lower, ok) refl
