-- Bytes and the pairs of their digits.
use Rattle.std.proofs.Common.{◌≡◌, ℕ, zero, suc, ◌+◌, ◌*◌, ◌/◌, ◌%◌, ◌<◌, ◌≤◌, List, [], ◌∷◌, ◌++◌, length, take, set, get_or, slice_index, refl, sym, ap, ◌∙◌, append_assoc, arith, Fits, w8, inl, inr, ltb-true, ltb-false}
use Rattle.std.specs.Prelude.{◌≢◌, ◌&&◌, ◌⊎◌, Bool, true, false, nat_lt}
use Rattle.std.proofs.lemmas.Bool.{and_parts, and_cases}
use Rattle.std.proofs.lemmas.List.{take_more_set}
use Rattle.std.proofs.Math.Seq.{take-suc}
use Rattle.hex.specs.Hex.{encode_lower, encode_with, lower_digits, IsBytes}
use Rattle.hex.proofs.HexLemmas.{length-encode_with}

abbrev pub high_digit : ℕ → ℕ
high_digit b = slice_index lower_digits (b / 16)

abbrev pub low_digit : ℕ → ℕ
low_digit b = slice_index lower_digits (b % 16)

encode_more : (xs : List ℕ) (b : ℕ) → encode_lower (xs ++ b ∷ []) ≡ encode_lower xs ++ high_digit b ∷ low_digit b ∷ []
unfolding encode_with
encode_more [] b = refl
encode_more (x ∷ xs) b = ap (λ (t : List ℕ). high_digit x ∷ low_digit x ∷ t) (encode_more xs b)

take_two : (text : List ℕ) (i : ℕ) → 2 * i + 1 < length text → take (2 * (i + 1)) text ≡ take (2 * i) text ++ get_or text (2 * i) 0 ∷ get_or text (2 * i + 1) 0 ∷ []
take_two text i lt =
    let twice : 2 * (i + 1) ≡ suc (2 * i + 1) = omega arith in
    let next : 2 * i + 1 ≡ suc (2 * i) = omega arith in
    ap (λ (k : ℕ). take k text) twice ∙ take-suc text (2 * i + 1) 0 lt
    ∙ ap (λ (xs : List ℕ). xs ++ get_or text (2 * i + 1) 0 ∷ []) (ap (λ (k : ℕ). take k text) next ∙ take-suc text (2 * i) 0 (omega arith))
    ∙ append_assoc (take (2 * i) text) (get_or text (2 * i) 0 ∷ []) (get_or text (2 * i + 1) 0 ∷ [])

-- one byte more is read
read_more : (text bytes : List ℕ) (i b : ℕ) → length text ≡ 2 * length bytes → i < length bytes → encode_lower (take i bytes) ≡ take (2 * i) text → get_or text (2 * i) 0 ≡ high_digit b → get_or text (2 * i + 1) 0 ≡ low_digit b
    → encode_lower (take (i + 1) (set bytes i b)) ≡ take (2 * (i + 1)) text
read_more text bytes i b size lt so_far high low =
    ap encode_lower (take_more_set bytes i b lt) ∙ encode_more (take i bytes) b ∙ ap (λ (xs : List ℕ). xs ++ high_digit b ∷ low_digit b ∷ []) so_far
    ∙ ap (λ (x : ℕ). take (2 * i) text ++ x ∷ low_digit b ∷ []) (sym high) ∙ ap (λ (x : ℕ). take (2 * i) text ++ get_or text (2 * i) 0 ∷ x ∷ []) (sym low)
    ∙ sym (take_two text i (omega arith))

digits_at : (xs : List ℕ) (i : ℕ) → i < length xs → (get_or (encode_lower xs) (2 * i) 0 ≡ high_digit (get_or xs i 0)) × (get_or (encode_lower xs) (2 * i + 1) 0 ≡ low_digit (get_or xs i 0))
unfolding encode_with
digits_at [] i lt = absurd (omega arith)
digits_at (x ∷ xs) zero lt = (refl, refl)
digits_at (x ∷ xs) (suc i) lt =
    let first : 2 * suc i ≡ suc (suc (2 * i)) = omega arith in
    let second : 2 * suc i + 1 ≡ suc (suc (2 * i + 1)) = omega arith in
    let more = digits_at xs i (omega arith) in
    (ap (λ (k : ℕ). get_or (encode_lower (x ∷ xs)) k 0) first ∙ more.0, ap (λ (k : ℕ). get_or (encode_lower (x ∷ xs)) k 0) second ∙ more.1)

-- what is no pair of digits stands in no text of bytes
read_none : (text others : List ℕ) (i : ℕ) → 2 * i + 1 < length text → ((b : ℕ) → b < 256 → get_or text (2 * i) 0 ≡ high_digit b → get_or text (2 * i + 1) 0 ≢ low_digit b) → IsBytes others → text ≡ encode_lower others → ⊥
read_none text others i lt none fits is =
    let size : length text ≡ 2 * length others = ap length is ∙ length-encode_with lower_digits others in
    let digits = digits_at others i (omega arith) in
    none (get_or others i 0) (fits i) (ap (λ (t : List ℕ). get_or t (2 * i) 0) is ∙ digits.0) (ap (λ (t : List ℕ). get_or t (2 * i + 1) 0) is ∙ digits.1)

pub set_bytes : (xs : List ℕ) (i b : ℕ) → IsBytes xs → b < 256 → IsBytes (set xs i b)
set_bytes [] i b h lt k = h k
set_bytes (x ∷ xs) zero b h lt zero = lt
set_bytes (x ∷ xs) zero b h lt (suc k) = h (suc k)
set_bytes (x ∷ xs) (suc i) b h lt zero = h 0
set_bytes (x ∷ xs) (suc i) b h lt (suc k) = set_bytes xs i b (λ j. h (suc j)) lt k

pub byte_fits : (b : ℕ) → Fits w8 b → b < 256
byte_fits b h = omega (arith, h)

-- the byte of two values
pub byte_parts : (h l : ℕ) → h < 16 → l < 16 → ((h * 16 % 256 + l) % 256 / 16 ≡ h) × ((h * 16 % 256 + l) % 256 % 16 ≡ l)
byte_parts h l hs ls = (omega (arith, hs, ls), omega (arith, hs, ls))

-- two digits more are read, if all so far were digits
pub digits_read : (text bytes : List ℕ) (i h l : ℕ) (so_far : Bool) → length text ≡ 2 * length bytes → i < length bytes
    → (h < 16 → get_or text (2 * i) 0 ≡ slice_index lower_digits h) → (l < 16 → get_or text (2 * i + 1) 0 ≡ slice_index lower_digits l)
    → (so_far ≡ true → encode_lower (take i bytes) ≡ take (2 * i) text) → (so_far && (nat_lt h 16 && nat_lt l 16)) ≡ true
    → encode_lower (take (i + 1) (set bytes i ((h * 16 % 256 + l) % 256))) ≡ take (2 * (i + 1)) text
digits_read text bytes i h l so_far size lt high low front all =
    let first = and_parts so_far (nat_lt h 16 && nat_lt l 16) all in
    let both = and_parts (nat_lt h 16) (nat_lt l 16) first.1 in
    let hs : h < 16 = ltb-true h 16 both.0 in
    let ls : l < 16 = ltb-true l 16 both.1 in
    let parts = byte_parts h l hs ls in
    read_more text bytes i ((h * 16 % 256 + l) % 256) size lt (front first.0)
    (high hs ∙ ap (λ (d : ℕ). slice_index lower_digits d) (sym parts.0))
    (low ls ∙ ap (λ (d : ℕ). slice_index lower_digits d) (sym parts.1))

-- what is no digit, or comes after one that is none, makes the text no text of bytes
pub digits_unread : (text others : List ℕ) (i h l : ℕ) (so_far : Bool) → 2 * i + 1 < length text
    → (16 ≤ h → (d : ℕ) → d < 16 → get_or text (2 * i) 0 ≢ slice_index lower_digits d)
    → (16 ≤ l → (d : ℕ) → d < 16 → get_or text (2 * i + 1) 0 ≢ slice_index lower_digits d)
    → (so_far ≡ false → text ≢ encode_lower others) → (so_far && (nat_lt h 16 && nat_lt l 16)) ≡ false
    → IsBytes others → text ≢ encode_lower others
digits_unread text others i h l so_far lt high low front unread fits = first (and_cases so_far (nat_lt h 16 && nat_lt l 16) unread)
  where
    second : (nat_lt h 16 ≡ false) ⊎ (nat_lt l 16 ≡ false) → text ≢ encode_lower others
    second (inl which) = read_none text others i lt (λ b fit is _. high (ltb-false h 16 which) (b / 16) (omega (arith, fit)) is) fits
    second (inr which) = read_none text others i lt (λ b fit _ is. low (ltb-false l 16 which) (b % 16) (omega (arith, fit)) is) fits

    first : (so_far ≡ false) ⊎ ((nat_lt h 16 && nat_lt l 16) ≡ false) → text ≢ encode_lower others
    first (inl which) = front which
    first (inr which) = second (and_cases (nat_lt h 16) (nat_lt l 16) which)
