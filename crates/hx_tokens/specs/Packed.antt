-- A name in two words.
use Rattle.std.specs.Prelude.{◌≡◌, ℕ, ◌+◌, ◌*◌, ◌/◌, ◌%◌, ◌^◌, ◌<◌, ◌++◌, List, [], ◌∷◌, slice_index, bit_and}
use Rattle.std.specs.Hash as fed
use Rattle.std.specs.Int.{w16, w32, w64, to_le_bytes, from_le_bytes}
use Rattle.std.proofs.Common.{ap, ◌∙◌}
use Rattle.std.proofs.lemmas.Nat.{pow_pos, shr_split, mod_below, from_le_bytes-to_le_bytes_2, from_le_bytes-to_le_bytes_4, from_le_bytes-to_le_bytes_8}
use Rattle.hx_tokens.specs.declared.name.Name.{Name}

-- the low word of a name: its token's fifth and sixth letter, above these the first four, and above them its member
abbrev pub low_of : Name → ℕ
low_of name =
    let t = name.token.0 in
    let first = slice_index t 0 ∷ slice_index t 1 ∷ slice_index t 2 ∷ slice_index t 3 ∷ [] in
    let next = slice_index t 4 ∷ slice_index t 5 ∷ [] in
    (name.member * 2 ^ 32 + from_le_bytes w32 first) * 2 ^ 16 + from_le_bytes w16 next

-- the high word of a name: the last eight letters of its token
abbrev pub high_of : Name → ℕ
high_of name =
    let t = name.token.0 in
    from_le_bytes w64 (slice_index t 6 ∷ slice_index t 7 ∷ slice_index t 8 ∷ slice_index t 9
    ∷ slice_index t 10 ∷ slice_index t 11 ∷ slice_index t 12 ∷ slice_index t 13 ∷ [])

-- the digits that the last two letters of a token spell, each in four bits
abbrev pub last_of : Name → ℕ
last_of name = let last = high_of name / 2 ^ 48 in last % 16 * 16 + last / 256 % 16

-- what is hashed of a name: its two words at once without the last digits, the high one above the low one, and these digits
abbrev pub hashed_of : Name → List (List ℕ)
hashed_of name =
    fed.u128 (bit_and (high_of name) 0xf0f0ffffffffffff * 2 ^ 64 + low_of name)
    ++ fed.u8 (last_of name)

-- the name of two words
abbrev pub name_of_words : (low high : ℕ) → Name
name_of_words low high =
    let front = low / 2 ^ 16 in
    record {
      member = front / 2 ^ 32;
      token = record {
        0 = to_le_bytes w32 (front % 2 ^ 32) ++ to_le_bytes w16 (low % 2 ^ 16)
            ++ to_le_bytes w64 high;
      };
    }

-- the words of the name of two words are these
pub low_of-words : (low high : ℕ) → low < 2 ^ 64 → low_of (name_of_words low high) ≡ low
low_of-words low high h =
    let front = low / 2 ^ 16 in
    let first = front % 2 ^ 32 in
    let next = low % 2 ^ 16 in
    let member = front / 2 ^ 32 in
    let four = from_le_bytes-to_le_bytes_4 first (mod_below front (2 ^ 32) (pow_pos 32)) in
    let two = from_le_bytes-to_le_bytes_2 next (mod_below low (2 ^ 16) (pow_pos 16)) in
    let more = from_le_bytes w16 (to_le_bytes w16 next) in
    ap (λ x. (member * 2 ^ 32 + x) * 2 ^ 16 + more) four
    ∙ ap (λ x. (member * 2 ^ 32 + first) * 2 ^ 16 + x) two
    ∙ ap (λ x. x * 2 ^ 16 + next) (shr_split front 32) ∙ shr_split low 16

pub high_of-words : (low high : ℕ) → high < 2 ^ 64 → high_of (name_of_words low high) ≡ high
high_of-words low high h = from_le_bytes-to_le_bytes_8 high h
