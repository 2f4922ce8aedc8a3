-- Digits and their values.
use Rattle.std.proofs.Common.{◌≡◌, ℕ, zero, suc, ◌+◌, ◌-◌, ◌*◌, ◌/◌, ◌%◌, ◌^◌, ◌<◌, ◌≤◌, ◌↔◌, Bool, true, false, ◌&&◌, not, cond, ltb, leb, eqb, List, [], ◌∷◌, ◌++◌, map, length, get_or, replicate, take, drop, slice_index, refl, sym, ap, subst, ◌∙◌, inl, inr, arith, w8, Fits, ltb-true, ltb-false, leb-false}
use Rattle.std.proofs.lemmas.Bool.{cases_lt, and_parts, eqb-true, eq-eqb, leb-true}
use Rattle.std.proofs.lemmas.Bool.Decides.{nat_tests}
use Rattle.std.proofs.lemmas.List.{length-map, map-append, take-append-drop, take_all, length-take, length-drop}
use Rattle.hx_tape_lines.proofs.Lanes.{firsts, all_lanes}
use Rattle.std.proofs.lemmas.Simd.{length-zip2, mask_l-mod}
use Rattle.std.specs.Simd.Lanes.{zip2, Each1, sel_l, mask_l, top}
use Rattle.hex.specs.Hex.{encode_lower, encode_with, lower_digits, IsBytes}
use Rattle.hx_tape_lines.specs.Digits.{value_of, AreValues, joined}
use Rattle.hx_tape_lines.proofs.Pairs.{byte_parts}

-- ---- values

value_number : (c : ℕ) → 48 ≤ c → c ≤ 57 → value_of c ≡ c - 48
value_number c low high = grind (arith, nat_tests)

value_letter : (c : ℕ) → 97 ≤ c → c ≤ 102 → value_of c ≡ c - 87
value_letter c low high = grind (arith, nat_tests)

value_below : (c : ℕ) → c < 48 → value_of c ≡ 16
value_below c lt = grind (arith, nat_tests)

value_between : (c : ℕ) → 57 < c → c < 97 → value_of c ≡ 16
value_between c low high = grind (arith, nat_tests)

value_above : (c : ℕ) → 102 < c → value_of c ≡ 16
value_above c lt = grind (arith, nat_tests)

-- the code of a digit
abbrev code_of : ℕ → ℕ
code_of d = cond (ltb d 10) (48 + d) (87 + d)

abbrev are_codes : ℕ → Bool
are_codes zero = true
are_codes (suc n) = are_codes n && eqb (slice_index lower_digits n) (code_of n)

are_codes-at : (n k : ℕ) → are_codes n ≡ true → k < n → slice_index lower_digits k ≡ code_of k
are_codes-at zero k h lt = absurd (omega (arith, lt))
are_codes-at (suc n) k h lt =
    let parts = and_parts (are_codes n) (eqb (slice_index lower_digits n) (code_of n)) h in
    elim (cases_lt k n) [
      | inl below ↦ are_codes-at n k parts.0 below
      | inr most ↦ let same : k ≡ n = omega (arith, lt, most) in subst (λ (j : ℕ). slice_index lower_digits j ≡ code_of j) (sym same) (eqb-true _ _ parts.1)
    ]

digit_code : (d : ℕ) → d < 16 → slice_index lower_digits d ≡ code_of d
digit_code d lt = are_codes-at 16 d refl lt

pub digit_is : (d : ℕ) → d < 16 → slice_index lower_digits d ≡ cond (ltb d 10) (48 + d) (87 + d)
digit_is d lt = digit_code d lt

-- a digit has its value
value_of_digit : (d : ℕ) → d < 16 → value_of (slice_index lower_digits d) ≡ d
value_of_digit d lt = ap value_of (digit_code d lt) ∙ go (ltb d 10) refl
  where
    go : (t : Bool) → ltb d 10 ≡ t → value_of (cond t (48 + d) (87 + d)) ≡ d
    go true e = let small = ltb-true d 10 e in value_number (48 + d) (omega arith) (omega (arith, small)) ∙ omega arith
    go false e = let large = ltb-false d 10 e in value_letter (87 + d) (omega (arith, large)) (omega (arith, lt)) ∙ omega arith

code_small : (d : ℕ) → d < 10 → code_of d ≡ 48 + d
code_small d lt = grind (arith, nat_tests)

code_large : (d : ℕ) → 10 ≤ d → code_of d ≡ 87 + d
code_large d le = grind (arith, nat_tests)

number_digit : (c : ℕ) → 48 ≤ c → c ≤ 57 → c ≡ slice_index lower_digits (value_of c)
number_digit c low high =
    let whole : c ≡ 48 + (c - 48) = omega (arith, low) in
    whole ∙ sym (code_small (c - 48) (omega (arith, high))) ∙ sym (digit_code (c - 48) (omega (arith, high))) ∙ ap (λ (d : ℕ). slice_index lower_digits d) (sym (value_number c low high))

letter_digit : (c : ℕ) → 97 ≤ c → c ≤ 102 → c ≡ slice_index lower_digits (value_of c)
letter_digit c low high =
    let whole : c ≡ 87 + (c - 87) = omega (arith, low) in
    whole ∙ sym (code_large (c - 87) (omega (arith, low))) ∙ sym (digit_code (c - 87) (omega (arith, high))) ∙ ap (λ (d : ℕ). slice_index lower_digits d) (sym (value_letter c low high))

-- what has a value is the digit of it
digit_of_value : (c : ℕ) → value_of c < 16 → c ≡ slice_index lower_digits (value_of c)
digit_of_value c small =
    elim (cases_lt c 48) [
      | inl lt ↦ absurd (omega (arith, small, value_below c lt))
      | inr low ↦ elim (cases_lt 57 c) [
        | inr high ↦ number_digit c low high
        | inl more ↦ elim (cases_lt c 97) [
          | inl lt ↦ absurd (omega (arith, small, value_between c more lt))
          | inr letters ↦ elim (cases_lt 102 c) [
            | inl beyond ↦ absurd (omega (arith, small, value_above c beyond))
            | inr high ↦ letter_digit c letters high
          ]
        ]
      ]
    ]

-- ---- digits and bytes

pub are_digits : (ds : List ℕ) (n : ℕ) → length ds ≡ 2 * n → AreValues (map value_of ds) → ds ≡ encode_lower (joined (map value_of ds))
unfolding encode_with
are_digits [] n e h = refl
are_digits (x ∷ []) n e h = absurd (omega (arith, e))
are_digits (x ∷ y ∷ ds) zero e h = absurd (omega (arith, e))
are_digits (x ∷ y ∷ ds) (suc n) e h =
    let parts = byte_parts (value_of x) (value_of y) (h 0) (h 1) in
    let rest = are_digits ds n (omega (arith, e)) (λ i. h (suc (suc i))) in
    let first = digit_of_value x (h 0) ∙ ap (λ (d : ℕ). slice_index lower_digits d) (sym parts.0) in
    let second = digit_of_value y (h 1) ∙ ap (λ (d : ℕ). slice_index lower_digits d) (sym parts.1) in
    let byte : ℕ = (value_of x * 16 % 256 + value_of y) % 256 in
    let high : ℕ = slice_index lower_digits (byte / 16) in
    let low : ℕ = slice_index lower_digits (byte % 16) in
    ap (λ (c : ℕ). c ∷ y ∷ ds) first ∙ ap (λ (c : ℕ). high ∷ c ∷ ds) second ∙ ap (λ (l : List ℕ). high ∷ low ∷ l) rest

pub joined_bytes : (vs : List ℕ) → IsBytes (joined vs)
joined_bytes [] i = omega arith
joined_bytes (x ∷ []) i = omega arith
joined_bytes (x ∷ y ∷ vs) zero = omega arith
joined_bytes (x ∷ y ∷ vs) (suc i) = joined_bytes vs i

pub digits_values : (bytes : List ℕ) → IsBytes bytes → AreValues (map value_of (encode_lower bytes))
unfolding encode_with
digits_values [] fits i = omega arith
digits_values (b ∷ bs) fits zero = omega (arith, fits 0, value_of_digit (b / 16) (omega (arith, fits 0)))
digits_values (b ∷ bs) fits (suc zero) = omega (arith, fits 0, value_of_digit (b % 16) (omega (arith, fits 0)))
digits_values (b ∷ bs) fits (suc (suc i)) = digits_values bs (λ k. fits (suc k)) i

-- ---- vectors

abbrev pub at_least : ℕ → ℕ → ℕ
at_least a b = cond (leb a b) 255 0

flag : (x : ℕ) → (◌≡◌ {A = ℕ} (cond (top 7 (at_least 16 x)) 1 0) 0) ↔ (x < 16)
flag x = go (leb 16 x) refl
  where
    go : (t : Bool) → leb 16 x ≡ t → (◌≡◌ {A = ℕ} (cond (top 7 (cond t 255 0)) 1 0) 0) ↔ (x < 16)
    go true e = (λ q. absurd (omega arith), λ z. absurd (omega (arith, z, leb-true _ _ e)))
    go false e = (λ _. omega (arith, leb-false _ _ e), λ _. refl)

none_beyond : (xs : List ℕ) → (mask_l (map (top 7) (zip2 at_least (replicate (length xs) 16) xs)) ≡ 0) ↔ AreValues xs
none_beyond [] = (λ _ i. omega arith, λ _. refl)
none_beyond (x ∷ xs) =
    let r = none_beyond xs in
    (λ e. elim [ zero ↦ (flag x).0 (omega arith) | suc i ↦ r.0 (omega arith) i ], λ h. omega (arith, (flag x).1 (h 0), r.1 (λ i. h (suc i))))

pub are_values : (xs : List ℕ) → length xs ≡ 16 → (eqb (mask_l (map (top 7) (zip2 at_least (replicate 16 16) xs)) % 2 ^ 64) 0 ≡ true) ↔ AreValues xs
are_values xs long =
    let marks : List ℕ = zip2 at_least (replicate 16 16) xs in
    let size : length (map (top 7) marks) ≤ 64 = omega (arith, length-map marks (top 7), length-zip2 at_least (replicate 16 16) xs (sym long)) in
    let whole = mask_l-mod (map (top 7) marks) 64 size ∙ ap (λ (n : ℕ). mask_l (map (top 7) (zip2 at_least (replicate n 16) xs))) (sym long) in
    (λ t. (none_beyond xs).0 (sym whole ∙ eqb-true _ _ t), λ z. eq-eqb _ _ (whole ∙ (none_beyond xs).1 z))

abbrev pub below : ℕ → ℕ → ℕ
below a b = cond (ltb a b) 255 0

abbrev pub less : ℕ → ℕ → ℕ
less a b = (a + (2 ^ 8 - b)) % 2 ^ 8

abbrev pub plus : ℕ → ℕ → ℕ
plus a b = (a + b) % 2 ^ 8

one_value : (x : ℕ) → x < 256 → cond (top 7 (below (less x 48) 10)) (less x 48) (cond (top 7 (below (less x 97) 6)) (plus (less x 97) 10) 16) ≡ value_of x
one_value x fits = go (ltb (less x 48) 10) refl (ltb (less x 97) 6) refl
  where
    go : (t : Bool) → ltb (less x 48) 10 ≡ t → (u : Bool) → ltb (less x 97) 6 ≡ u → cond (top 7 (cond t 255 0)) (less x 48) (cond (top 7 (cond u 255 0)) (plus (less x 97) 10) 16) ≡ value_of x
    go true e u f = let is = ltb-true _ _ e in sym (value_number x (omega (arith, is, fits)) (omega (arith, is, fits)) ∙ omega (arith, is, fits))
    go false e true f = let is = ltb-true _ _ f in sym (value_letter x (omega (arith, is, fits)) (omega (arith, is, fits)) ∙ omega (arith, is, fits))
    go false e false f =
        let no = ltb-false _ _ e in
        let nor = ltb-false _ _ f in
        elim (cases_lt x 48) [
          | inl lt ↦ sym (value_below x lt)
          | inr low ↦ elim (cases_lt x 97) [
            | inl lt ↦ sym (value_between x (omega (arith, no, low)) lt)
            | inr high ↦ sym (value_above x (omega (arith, nor, high, fits)))
          ]
        ]

abbrev pub choices : ℕ → List ℕ → List ℕ
choices n v =
    sel_l (map (top 7) (zip2 below (zip2 less v (replicate n 48)) (replicate n 10))) (zip2 less v (replicate n 48))
    (sel_l (map (top 7) (zip2 below (zip2 less v (replicate n 97)) (replicate n 6))) (zip2 plus (zip2 less v (replicate n 97)) (replicate n 10)) (replicate n 16))

all_values : (v : List ℕ) → Each1 (Fits w8) v → choices (length v) v ≡ map value_of v
all_values [] h = refl
all_values (x ∷ xs) h = ap (λ (y : ℕ). y ∷ choices (length xs) xs) (one_value x h.0.fits) ∙ ap (λ (l : List ℕ). value_of x ∷ l) (all_values xs h.1)

pub chosen : (v : List ℕ) → length v ≡ 16 → Each1 (Fits w8) v → choices 16 v ≡ map value_of v
chosen v long h = ap (λ (n : ℕ). choices n v) (sym long) ∙ all_values v h

-- ---- values in a vector, joined

-- two vectors, one after the other, joined lane by lane
abbrev pub joined_in_turn : ℕ → ℕ → List ℕ → List ℕ
joined_in_turn zero k l = []
joined_in_turn (suc n) k l = (get_or l k 0 * 16 % 256 + get_or l (k + 1) 0) % 256 ∷ joined_in_turn n (k + 2) l

pub all_joined : (front back : List ℕ) → length front ≡ 16 → length back ≡ 16 → joined_in_turn 16 0 (front ++ back) ≡ joined (front ++ back)
all_joined front back e f =
    subst (λ (v : List ℕ). joined_in_turn 16 0 (v ++ back) ≡ joined (v ++ back)) (sym (all_lanes 16 front e))
    (subst (λ (w : List ℕ). joined_in_turn 16 0 (firsts 16 front ++ w) ≡ joined (firsts 16 front ++ w)) (sym (all_lanes 16 back f)) refl)

-- ---- a block of digits

values-append : (xs ys : List ℕ) → AreValues xs → AreValues ys → AreValues (xs ++ ys)
values-append [] ys p q i = q i
values-append (x ∷ xs) ys p q zero = p 0
values-append (x ∷ xs) ys p q (suc i) = values-append xs ys (λ k. p (suc k)) q i

values-front : (xs ys : List ℕ) → AreValues (xs ++ ys) → AreValues xs
values-front [] ys p i = omega arith
values-front (x ∷ xs) ys p zero = p 0
values-front (x ∷ xs) ys p (suc i) = values-front xs ys (λ k. p (suc k)) i

values-back : (xs ys : List ℕ) → AreValues (xs ++ ys) → AreValues ys
values-back [] ys p i = p i
values-back (x ∷ xs) ys p i = values-back xs ys (λ k. p (suc k)) i

-- of digits in two halves the values are those of both
halves : (digits : List ℕ) → map value_of (take 16 digits) ++ map value_of (drop 16 digits) ≡ map value_of digits
halves digits = sym (map-append value_of (take 16 digits) (drop 16 digits)) ∙ ap (map value_of) (take-append-drop 16 digits)

pub block_values : (digits : List ℕ) → AreValues (map value_of (take 16 digits)) → AreValues (map value_of (drop 16 digits)) → length digits ≡ 32
    → (digits ≡ encode_lower (joined (map value_of (take 16 digits) ++ map value_of (drop 16 digits))))
block_values digits p q e =
    are_digits digits 16 e (subst AreValues (halves digits) (values-append _ _ p q)) ∙ ap (λ (l : List ℕ). encode_lower (joined l)) (sym (halves digits))

pub front_values : (digits others : List ℕ) → IsBytes others → digits ≡ encode_lower others → AreValues (map value_of (take 16 digits))
front_values digits others fits is = values-front _ _ (subst AreValues (sym (halves digits)) (subst (λ (l : List ℕ). AreValues (map value_of l)) (sym is) (digits_values others fits)))

pub back_values : (digits others : List ℕ) → IsBytes others → digits ≡ encode_lower others → AreValues (map value_of (drop 16 digits))
back_values digits others fits is = values-back (map value_of (take 16 digits)) _ (subst AreValues (sym (halves digits)) (subst (λ (l : List ℕ). AreValues (map value_of l)) (sym is) (digits_values others fits)))

-- the halves as they are loaded
pub front_half : (digits : List ℕ) → length digits ≡ 32 → take 16 (take 16 digits) ≡ take 16 digits
front_half digits e = take_all 16 (take 16 digits) (omega (arith, length-take 16 digits))

pub back_half : (digits : List ℕ) → length digits ≡ 32 → take 16 (take 16 (drop 16 digits)) ≡ drop 16 digits
back_half digits e =
    let size : length (drop 16 digits) ≡ 16 = omega (arith, length-drop 16 digits, e) in
    take_all 16 (take 16 (drop 16 digits)) (omega (arith, length-take 16 (drop 16 digits))) ∙ take_all 16 (drop 16 digits) (omega (arith, size))

pub not_not : (b : Bool) → not (not b) ≡ b
not_not true = refl
not_not false = refl
