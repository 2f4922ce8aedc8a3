-- Names in two words: the words determine the name.
use Rattle.std.proofs.Common.{◌≡◌, ℕ, ◌+◌, ◌*◌, ◌/◌, ◌%◌, ◌^◌, ◌<◌, ◌++◌, ◌∷◌, [], List, zero, suc, length, get_or, slice_index, refl, ap, sym, ◌∙◌, arith}
use Rattle.std.specs.Int.{w16, w32, w64, to_le_bytes, from_le_bytes}
use Rattle.std.proofs.lemmas.Nat.{le_bytes_2, le_bytes_4, le_bytes_8}
use Rattle.hx_units.specs.declared.names.Token.{Token}
use Rattle.hx_tokens.specs.Packed.{name_of_words}
use Rattle.hx_tokens.specs.Rows.{name_of}

-- the first values of a function
abbrev firsts : (n : ℕ) → (ℕ → ℕ) → List ℕ
firsts zero f = []
firsts (suc n) f = f 0 ∷ firsts n (λ i. f (suc i))

-- a list is its items
firsts-items : (xs : List ℕ) → firsts (length xs) (λ i. slice_index xs i) ≡ xs
firsts-items [] = refl
firsts-items (x ∷ xs) = ap (λ l. x ∷ l) (firsts-items xs)

-- each item of a list of bytes is one
firsts-below : (n : ℕ) (f : ℕ → ℕ) → ((i : ℕ) → f i < 256) → (i : ℕ) → get_or (firsts n f) i 0 < 256
firsts-below zero f h i = omega arith
firsts-below (suc n) f h zero = h 0
firsts-below (suc n) f h (suc i) = firsts-below n (λ k. f (suc k)) (λ k. h (suc k)) i

-- the name of a name's words is the name
pub name_of_words-words : (m : ℕ) (t : Token) → length t.0 ≡ 14 → ((i : ℕ) → get_or t.0 i 0 < 256)
    → (first next last : ℕ) → first < 2 ^ 32 → next < 2 ^ 16
    → first ≡ from_le_bytes w32 (firsts 4 (λ i. slice_index t.0 i))
    → next ≡ from_le_bytes w16 (firsts 2 (λ i. slice_index t.0 (i + 4)))
    → last ≡ from_le_bytes w64 (firsts 8 (λ i. slice_index t.0 (i + 6)))
    → name_of_words ((m * 2 ^ 32 + first) * 2 ^ 16 + next) last ≡ name_of m t
name_of_words-words m t long bytes first next last four two a b d =
    let low = (m * 2 ^ 32 + first) * 2 ^ 16 + next in
    let front : low / 2 ^ 16 ≡ m * 2 ^ 32 + first = omega arith in
    let member : low / 2 ^ 16 / 2 ^ 32 ≡ m = omega arith in
    let is-first : low / 2 ^ 16 % 2 ^ 32 ≡ first = omega arith in
    let is-next : low % 2 ^ 16 ≡ next = omega arith in
    let part : (n k : ℕ) (i : ℕ) → get_or (firsts n (λ i. slice_index t.0 (i + k))) i 0 < 256 = λ n k. firsts-below n (λ i. slice_index t.0 (i + k)) (λ i. bytes (i + k)) in
    let x = le_bytes_4 (firsts 4 (λ i. slice_index t.0 i)) first refl (firsts-below 4 (λ i. slice_index t.0 i) bytes) a in
    let y = le_bytes_2 (firsts 2 (λ i. slice_index t.0 (i + 4))) next refl (part 2 4) b in
    let z = le_bytes_8 (firsts 8 (λ i. slice_index t.0 (i + 6))) last refl (part 8 6) d in
    let letters : to_le_bytes w32 (low / 2 ^ 16 % 2 ^ 32) ++ to_le_bytes w16 (low % 2 ^ 16) ++ to_le_bytes w64 last ≡ t.0 =
    ap (λ x. to_le_bytes w32 x ++ to_le_bytes w16 (low % 2 ^ 16) ++ to_le_bytes w64 last) is-first
    ∙ ap (λ x. to_le_bytes w32 first ++ to_le_bytes w16 x ++ to_le_bytes w64 last) is-next
    ∙ (λ j. x j ++ y j ++ z j) ∙ ap (λ n. firsts n (λ i. slice_index t.0 i)) (sym long) ∙ firsts-items t.0
    in
    λ j. record { member = member j; token = record { 0 = letters j } }
