-- Eight digits as one word.
use Rattle.std.proofs.Common.{◌≡◌, ℕ, ◌+◌, ◌-◌, ◌*◌, ◌/◌, ◌%◌, ◌<◌, ◌≤◌, List, [], ◌∷◌, length, slice_index, refl, sym, ap, subst, ◌∙◌, arith, w64}
use Rattle.std.specs.Int.{from_le_bytes}
use Rattle.std.specs.Str.Parse.{digits_value, AllDigits}
use Rattle.std.specs.Char.{digit_value}
use Rattle.hx_tape_lines.proofs.Lanes.{all_lanes}
use Rattle.hx_units.proofs.Decimals.{is_digit, digit_value_of}

-- eight lanes of a word
abbrev pub word : (a b c d e f g h : ℕ) → ℕ
word a b c d e f g h = a + 256 * b + 65536 * c + 16777216 * d + 4294967296 * e + 1099511627776 * f + 281474976710656 * g + 72057594037927936 * h

lane_0 : (a b c d e f g h : ℕ) → a < 256 → word a b c d e f g h % 256 ≡ a
lane_0 a b c d e f g h la = omega (arith, la)

lane_2 : (a b c d e f g h : ℕ) → a < 256 → b < 256 → c < 256 → word a b c d e f g h / 65536 % 256 ≡ c
lane_2 a b c d e f g h la lb lc = omega (arith, la, lb, lc)

lane_4 : (a b c d e f g h : ℕ) → a < 256 → b < 256 → c < 256 → d < 256 → e < 256 → word a b c d e f g h / 4294967296 % 256 ≡ e
lane_4 a b c d e f g h la lb lc ld le = omega (arith, la, lb, lc, ld, le)

lane_6 : (a b c d e f g h : ℕ) → a < 256 → b < 256 → c < 256 → d < 256 → e < 256 → f < 256 → g < 256 → word a b c d e f g h / 281474976710656 % 256 ≡ g
lane_6 a b c d e f g h la lb lc ld le lf lg = omega (arith, la, lb, lc, ld, le, lf, lg)

next_lanes : (a b c d e f g h : ℕ) → a < 256 → word a b c d e f g h / 256 ≡ word b c d e f g h 0
next_lanes a b c d e f g h la = omega (arith, la)

-- the number of eight digits, as pairs, and pairs of pairs
abbrev pub paired : ℕ → ℕ
paired v = v * 10 + v / 256

abbrev pub joined : ℕ → ℕ
joined p = (p % 256 * 100 + p / 65536 % 256) * 10000 + (p / 4294967296 % 256 * 100 + p / 281474976710656 % 256)

-- the number that digits write
abbrev number : (a b c d e f g h : ℕ) → ℕ
number a b c d e f g h = (((((((0 * 10 + a) * 10 + b) * 10 + c) * 10 + d) * 10 + e) * 10 + f) * 10 + g) * 10 + h

joined_pairs : (a b c d e f g h : ℕ) → a < 10 → b < 10 → c < 10 → d < 10 → e < 10 → f < 10 → g < 10 → h < 10 → (v : ℕ) → v ≡ word a b c d e f g h → joined (paired v) ≡ number a b c d e f g h
joined_pairs a b c d e f g h la lb lc ld le lf lg lh v is =
    let next : v / 256 ≡ word b c d e f g h 0 = ap (λ (n : ℕ). n / 256) is ∙ next_lanes a b c d e f g h (omega (arith, la)) in
    let i = 10 * a + b in
    let j = 10 * b + c in
    let k = 10 * c + d in
    let l = 10 * d + e in
    let m = 10 * e + f in
    let n = 10 * f + g in
    let o = 10 * g + h in
    let pairs : paired v ≡ word i j k l m n o (10 * h) = omega (arith, is, next) in
    let first : paired v % 256 ≡ i = ap (λ (p : ℕ). p % 256) pairs ∙ lane_0 i j k l m n o (10 * h) (omega (arith, la, lb)) in
    let second : paired v / 65536 % 256 ≡ k = ap (λ (p : ℕ). p / 65536 % 256) pairs ∙ lane_2 i j k l m n o (10 * h) (omega (arith, la, lb)) (omega (arith, lb, lc)) (omega (arith, lc, ld)) in
    let third : paired v / 4294967296 % 256 ≡ m = ap (λ (p : ℕ). p / 4294967296 % 256) pairs
    ∙ lane_4 i j k l m n o (10 * h) (omega (arith, la, lb)) (omega (arith, lb, lc)) (omega (arith, lc, ld)) (omega (arith, ld, le)) (omega (arith, le, lf)) in
    let fourth : paired v / 281474976710656 % 256 ≡ o = ap (λ (p : ℕ). p / 281474976710656 % 256) pairs
    ∙ lane_6 i j k l m n o (10 * h) (omega (arith, la, lb)) (omega (arith, lb, lc)) (omega (arith, lc, ld)) (omega (arith, ld, le)) (omega (arith, le, lf)) (omega (arith, lf, lg)) (omega (arith, lg, lh)) in
    rw (first, second, third, fourth) (omega arith)

-- a digit's code
abbrev IsCode : ℕ → Type 0
IsCode c = (48 ≤ c) × (c ≤ 57)

digit_of : (c : ℕ) → IsCode c → digit_value c ≡ c - 48
digit_of c h = digit_value_of c (is_digit c h.0 h.1)

digit_small : (c : ℕ) → IsCode c → digit_value c < 10
digit_small c h = omega (arith, digit_of c h, h.0, h.1)

code_of : (c : ℕ) → IsCode c → 48 + (c - 48) ≡ c
code_of c h = omega (arith, h.0)

-- the word of eight bytes
word_of : (a b c d e f g h n : ℕ) → n ≡ from_le_bytes w64 (a ∷ b ∷ c ∷ d ∷ e ∷ f ∷ g ∷ h ∷ []) → n ≡ word a b c d e f g h
word_of a b c d e f g h n is = omega (arith, is)

values_of : (a b c d e f g h n : ℕ) → n ≡ word (48 + a) (48 + b) (48 + c) (48 + d) (48 + e) (48 + f) (48 + g) (48 + h) → n - 3472328296227680304 ≡ word a b c d e f g h
values_of a b c d e f g h n is = omega (arith, is)

-- eight bytes that are codes of digits
abbrev AreCodes : List ℕ → Type 0
AreCodes xs = (i : ℕ) → i < 8 → IsCode (slice_index xs i)

-- what is made of them
abbrev IsRead : List ℕ → Type 0
IsRead xs = (n : ℕ) → n ≡ from_le_bytes w64 xs → (joined (paired (n - 3472328296227680304)) ≡ digits_value 10 xs) × AllDigits 10 xs

eight_read : (a b c d e f g h : ℕ) → AreCodes (a ∷ b ∷ c ∷ d ∷ e ∷ f ∷ g ∷ h ∷ []) → IsRead (a ∷ b ∷ c ∷ d ∷ e ∷ f ∷ g ∷ h ∷ [])
eight_read a b c d e f g h all n is =
    let ka = all 0 (omega arith) in
    let kb = all 1 (omega arith) in
    let kc = all 2 (omega arith) in
    let kd = all 3 (omega arith) in
    let ke = all 4 (omega arith) in
    let kf = all 5 (omega arith) in
    let kg = all 6 (omega arith) in
    let kh = all 7 (omega arith) in
    let from : n ≡ word (48 + (a - 48)) (48 + (b - 48)) (48 + (c - 48)) (48 + (d - 48)) (48 + (e - 48)) (48 + (f - 48)) (48 + (g - 48)) (48 + (h - 48)) =
    rw (code_of a ka, code_of b kb, code_of c kc, code_of d kd, code_of e ke, code_of f kf, code_of g kg, code_of h kh) (word_of a b c d e f g h n is) in
    let values = values_of (a - 48) (b - 48) (c - 48) (d - 48) (e - 48) (f - 48) (g - 48) (h - 48) n from in
    let value = joined_pairs (a - 48) (b - 48) (c - 48) (d - 48) (e - 48) (f - 48) (g - 48) (h - 48) (omega (arith, ka)) (omega (arith, kb)) (omega (arith, kc)) (omega (arith, kd)) (omega (arith, ke)) (omega (arith, kf)) (omega (arith, kg)) (omega (arith, kh))
    (n - 3472328296227680304) values in (
      value ∙ rw (digit_of a ka, digit_of b kb, digit_of c kc, digit_of d kd, digit_of e ke, digit_of f kf, digit_of g kg, digit_of h kh) refl,
      (digit_small a ka, (digit_small b kb, (digit_small c kc, (digit_small d kd, (digit_small e ke, (digit_small f kf, (digit_small g kg, (digit_small h kh, tt)))))))),
    )

pub eight_digits : (xs : List ℕ) → length xs ≡ 8 → AreCodes xs → IsRead xs
eight_digits xs long = subst (λ (l : List ℕ). AreCodes l → IsRead l) (sym (all_lanes 8 xs long)) (eight_read _ _ _ _ _ _ _ _)
