-- What is read is spelled so, and what is spelled so is read.
use Rattle.std.proofs.Common.{◌≡◌, ℕ, zero, suc, ◌+◌, ◌-◌, ◌^◌, ◌<◌, ◌≤◌, List, [], ◌∷◌, ◌++◌, length, drop, Bool, true, false, ◌&&◌, nat_le, refl, sym, ap, ◌∙◌, append_assoc, add_comm, arith, subst}
use Rattle.std.proofs.lemmas.Bool.{leb-true, le-leb, eqb-true}
use Rattle.std.specs.List.{AllByRecursion}
use Rattle.std.proofs.lemmas.List.{length-append, length-drop, length-take, get_or-drop, take-append-drop, nil_from_length, drop-drop}
use Rattle.std.proofs.Math.Seq.{drop-append_seam, take-append_seam}
use Rattle.hx_units.specs.Fields.{number, number_at, text_at, spelled, AreBytes}
use Rattle.hx_units.proofs.FieldLaws.{cells-all, by_cells, number_2, number_8, spelled_at_2, spelled_at_8, length-text_at, AreBytes-text_at}
use Rattle.hx_mold.specs.Packets.{block, blocks, header, IsShort, IsHeader}
use Rattle.hx_mold.specs.Counting.{block_len, is_whole, messages_in}

-- ---- fields

less_2 : (a b : ℕ) → a < 256 → b < 256 → number (a ∷ b ∷ []) < 2 ^ 16
less_2 a b la lb = omega arith

less_8 : (a b c d e f g h : ℕ) → a < 256 → b < 256 → c < 256 → d < 256 → e < 256 → f < 256 → g < 256 → h < 256 → number (a ∷ b ∷ c ∷ d ∷ e ∷ f ∷ g ∷ h ∷ []) < 2 ^ 64
less_8 a b c d e f g h la lb lc ld le lf lg lh = omega arith

pub number_at_2-less : (at : ℕ) (bytes : List ℕ) → at + 2 ≤ length bytes → AreBytes bytes → number_at at 2 bytes < 2 ^ 16
number_at_2-less at bytes room fits =
    let xs = text_at at 2 bytes in
    let each = AreBytes-text_at at 2 bytes fits in
    subst (λ (ys : List ℕ). number ys < 2 ^ 16) (cells-all 2 xs (length-text_at at 2 bytes room)) (less_2 _ _ (each 0) (each 1))

pub number_at_8-less : (at : ℕ) (bytes : List ℕ) → at + 8 ≤ length bytes → AreBytes bytes → number_at at 8 bytes < 2 ^ 64
number_at_8-less at bytes room fits =
    let xs = text_at at 8 bytes in
    let each = AreBytes-text_at at 8 bytes fits in
    subst (λ (ys : List ℕ). number ys < 2 ^ 64) (cells-all 8 xs (length-text_at at 8 bytes room)) (less_8 _ _ _ _ _ _ _ _ (each 0) (each 1) (each 2) (each 3) (each 4) (each 5) (each 6) (each 7))

-- ---- the header

pub header_is : (bytes : List ℕ) → AreBytes bytes → 20 ≤ length bytes → IsHeader (text_at 0 10 bytes) (number_at 10 8 bytes)
header_is bytes fits room = record {
  ten = length-text_at 0 10 bytes (omega arith);
  fits = number_at_8-less 10 bytes (omega arith) fits;
}

pub header_spelled : (bytes : List ℕ) → AreBytes bytes → 20 ≤ length bytes → bytes ≡ header (text_at 0 10 bytes) (number_at 10 8 bytes) (number_at 18 2 bytes) ++ drop 20 bytes
header_spelled bytes fits room =
    let numbers : header (text_at 0 10 bytes) (number_at 10 8 bytes) (number_at 18 2 bytes) ≡ text_at 0 10 bytes ++ text_at 10 8 bytes ++ text_at 18 2 bytes =
    rw (spelled_at_8 10 bytes (omega arith) fits, spelled_at_2 18 bytes (omega arith) fits) refl in
    let d : text_at 18 2 bytes ++ drop 20 bytes ≡ drop 18 bytes = ap (λ (x : List ℕ). text_at 18 2 bytes ++ x) (sym (drop-drop 2 18 bytes)) ∙ take-append-drop 2 (drop 18 bytes) in
    let b : text_at 10 8 bytes ++ drop 18 bytes ≡ drop 10 bytes = ap (λ (x : List ℕ). text_at 10 8 bytes ++ x) (sym (drop-drop 8 10 bytes)) ∙ take-append-drop 8 (drop 10 bytes) in
    sym (ap (λ (x : List ℕ). x ++ drop 20 bytes) numbers
    ∙ append_assoc (text_at 0 10 bytes ++ text_at 10 8 bytes) (text_at 18 2 bytes) (drop 20 bytes)
    ∙ ap (λ (x : List ℕ). (text_at 0 10 bytes ++ text_at 10 8 bytes) ++ x) d
    ∙ append_assoc (text_at 0 10 bytes) (text_at 10 8 bytes) (drop 18 bytes)
    ∙ ap (λ (x : List ℕ). text_at 0 10 bytes ++ x) b
    ∙ take-append-drop 10 bytes)

pub header_again : (session rest : List ℕ) (sequence count : ℕ) → length session ≡ 10 → sequence < 2 ^ 64 → count < 2 ^ 16
    → (text_at 0 10 (header session sequence count ++ rest) ≡ session) × (number_at 10 8 (header session sequence count ++ rest) ≡ sequence) × (number_at 18 2 (header session sequence count ++ rest) ≡ count)
    × (drop 20 (header session sequence count ++ rest) ≡ rest)
unfolding spelled
header_again session rest sequence count len fits few =
    by_cells (λ s. (text_at 0 10 (header s sequence count ++ rest) ≡ s) × (number_at 10 8 (header s sequence count ++ rest) ≡ sequence) × (number_at 18 2 (header s sequence count ++ rest) ≡ count)
    × (drop 20 (header s sequence count ++ rest) ≡ rest)) 10 session len (refl, number_8 sequence fits, number_2 count few, refl)

pub header_len : (session : List ℕ) (sequence count : ℕ) → length session ≡ 10 → length (header session sequence count) ≡ 20
unfolding spelled
header_len session sequence count len = by_cells (λ s. length (header s sequence count) ≡ 20) 10 session len refl

-- ---- blocks

both : (a b : Bool) → (a && b) ≡ true → (a ≡ true) × (b ≡ true)
both true true e = (refl, refl)
both true false e = absurd cc
both false b e = absurd cc

pub AreBytes-drop : (n : ℕ) (bytes : List ℕ) → AreBytes bytes → AreBytes (drop n bytes)
AreBytes-drop n bytes fits i = rw get_or-drop (fits (n + i))

pub length-block : (m : List ℕ) → length (block m) ≡ length m + 2
unfolding spelled
length-block m = omega arith

pub first_len : (m rest : List ℕ) → IsShort m → number_at 0 2 (block m ++ rest) ≡ length m
unfolding spelled
first_len m rest short = number_2 (length m) short

first_text : (m rest : List ℕ) → text_at 2 (length m) (block m ++ rest) ≡ m
unfolding spelled
first_text m rest = take-append_seam m rest

first_rest : (m rest : List ℕ) → IsShort m → drop (block_len (block m ++ rest)) (block m ++ rest) ≡ rest
first_rest m rest short = ap (λ (n : ℕ). drop n (block m ++ rest)) (omega (arith, first_len m rest short, length-block m)) ∙ drop-append_seam (block m) rest

pub less_one : (k : ℕ) → k ≡ suc k - 1
less_one k = omega arith

pub is_whole_step : (k : ℕ) (bytes : List ℕ) → 0 < k → block_len bytes ≤ length bytes → is_whole k bytes ≡ is_whole (k - 1) (drop (block_len bytes) bytes)
is_whole_step zero bytes some room = absurd (omega arith)
is_whole_step (suc k) bytes some room =
    ap (λ (b : Bool). b && is_whole k (drop (block_len bytes) bytes)) (le-leb _ _ room) ∙ ap (λ (n : ℕ). is_whole n (drop (block_len bytes) bytes)) (less_one k)

is_whole_next : (k : ℕ) (bytes : List ℕ) → block_len bytes ≤ length bytes → is_whole (suc k) bytes ≡ is_whole k (drop (block_len bytes) bytes)
is_whole_next k bytes room = ap (λ (b : Bool). b && is_whole k (drop (block_len bytes) bytes)) (le-leb _ _ room)

pub messages_in_step : (k : ℕ) (bytes : List ℕ) → 0 < k → messages_in k bytes ≡ text_at 2 (number_at 0 2 bytes) bytes ∷ messages_in (k - 1) (drop (block_len bytes) bytes)
messages_in_step zero bytes some = absurd (omega arith)
messages_in_step (suc k) bytes some =
    ap (λ (n : ℕ). text_at 2 (number_at 0 2 bytes) bytes ∷ messages_in n (drop (block_len bytes) bytes)) (less_one k)

pub blocks_again : (ms : List (List ℕ)) → AllByRecursion IsShort ms → (is_whole (length ms) (blocks ms) ≡ true) × (messages_in (length ms) (blocks ms) ≡ ms)
blocks_again [] short = (refl, refl)
blocks_again (m ∷ ms) short =
    let again = blocks_again ms short.1 in
    let rest : drop (block_len (block m ++ blocks ms)) (block m ++ blocks ms) ≡ blocks ms = first_rest m (blocks ms) short.0 in
    let room : block_len (block m ++ blocks ms) ≤ length (block m ++ blocks ms) = omega (arith, first_len m (blocks ms) short.0, length-block m, length-append (block m) (blocks ms)) in (
      is_whole_next (length ms) (block m ++ blocks ms) room ∙ ap (is_whole (length ms)) rest ∙ again.0,
      ap (λ (n : ℕ). text_at 2 n (block m ++ blocks ms) ∷ messages_in (length ms) (drop (block_len (block m ++ blocks ms)) (block m ++ blocks ms))) (first_len m (blocks ms) short.0)
          ∙ ap (λ (x : List ℕ). x ∷ messages_in (length ms) (drop (block_len (block m ++ blocks ms)) (block m ++ blocks ms))) (first_text m (blocks ms))
          ∙ ap (λ (x : List (List ℕ)). m ∷ x) (ap (messages_in (length ms)) rest ∙ again.1),
    )

pub length-messages_in : (k : ℕ) (bytes : List ℕ) → length (messages_in k bytes) ≡ k
length-messages_in zero bytes = refl
length-messages_in (suc k) bytes = omega (arith, length-messages_in k (drop (block_len bytes) bytes))

pub blocks_spelled : (k : ℕ) (bytes : List ℕ) → AreBytes bytes → is_whole k bytes ≡ true → bytes ≡ blocks (messages_in k bytes)
blocks_spelled zero bytes fits whole = nil_from_length bytes (eqb-true (length bytes) 0 whole)
blocks_spelled (suc k) bytes fits whole =
    let two = both (nat_le (block_len bytes) (length bytes)) (is_whole k (drop (block_len bytes) bytes)) whole in
    let room : block_len bytes ≤ length bytes = leb-true _ _ two.0 in
    let n = number_at 0 2 bytes in
    let rest : drop (block_len bytes) bytes ≡ blocks (messages_in k (drop (block_len bytes) bytes)) =
    blocks_spelled k (drop (block_len bytes) bytes) (AreBytes-drop (block_len bytes) bytes fits) two.1 in
    let len : length (text_at 2 n bytes) ≡ n = omega (arith, length-take n (drop 2 bytes), length-drop 2 bytes) in
    let head : spelled 2 (length (text_at 2 n bytes)) ≡ text_at 0 2 bytes = ap (spelled 2) len ∙ spelled_at_2 0 bytes (omega arith) fits in
    let seam : text_at 2 n bytes ++ drop (block_len bytes) bytes ≡ drop 2 bytes =
    ap (λ (x : List ℕ). text_at 2 n bytes ++ x) (ap (λ (i : ℕ). drop i bytes) (add_comm n 2) ∙ sym (drop-drop n 2 bytes)) ∙ take-append-drop n (drop 2 bytes) in
    sym (ap (λ (x : List ℕ). (x ++ text_at 2 n bytes) ++ blocks (messages_in k (drop (block_len bytes) bytes))) head
    ∙ ap (λ (x : List ℕ). (text_at 0 2 bytes ++ text_at 2 n bytes) ++ x) (sym rest)
    ∙ append_assoc (text_at 0 2 bytes) (text_at 2 n bytes) (drop (block_len bytes) bytes)
    ∙ ap (λ (x : List ℕ). text_at 0 2 bytes ++ x) seam ∙ take-append-drop 2 bytes)

-- the messages that are read are short
pub messages_in-short : (k : ℕ) (bytes : List ℕ) → AreBytes bytes → is_whole k bytes ≡ true → AllByRecursion IsShort (messages_in k bytes)
messages_in-short zero bytes fits whole = tt
messages_in-short (suc k) bytes fits whole =
    let two = both (nat_le (block_len bytes) (length bytes)) (is_whole k (drop (block_len bytes) bytes)) whole in
    let room : block_len bytes ≤ length bytes = leb-true _ _ two.0 in
    let short : number_at 0 2 bytes < 2 ^ 16 = number_at_2-less 0 bytes (omega arith) fits in
    (omega (arith, length-take (number_at 0 2 bytes) (drop 2 bytes)), messages_in-short k (drop (block_len bytes) bytes) (AreBytes-drop (block_len bytes) bytes fits) two.1)
