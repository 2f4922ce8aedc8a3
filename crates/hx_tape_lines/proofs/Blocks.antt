-- Bytes and their digits, block by block.
use Rattle.std.proofs.Common.{◌≡◌, ℕ, zero, suc, ◌+◌, ◌-◌, ◌*◌, ◌<◌, ◌≤◌, List, [], ◌∷◌, ◌++◌, length, take, drop, refl, sym, ap, subst, ◌∙◌, append_assoc, arith, take-append-drop}
use Rattle.std.specs.Prelude.{◌≢◌, ◌%◌}
use Rattle.std.proofs.lemmas.List.{length-take-le}
use Rattle.std.proofs.Math.Seq.{take_at, drop_at, drop-drop, drop-length, take_all}
use Rattle.std.proofs.lemmas.List.{get_or-drop, drop_all, drop-append-le, length-drop}
use Rattle.hex.specs.Hex.{encode_lower, encode_with, IsBytes}
use Rattle.hx_tape_lines.specs.Digits.{AreWritten, AreRead}
use Rattle.hx_tape_lines.proofs.Lines.{hex_length}

pub encode-append : (xs ys : List ℕ) → encode_lower (xs ++ ys) ≡ encode_lower xs ++ encode_lower ys
unfolding encode_with
encode-append [] ys = refl
encode-append (x ∷ xs) ys = ap (λ (t : List ℕ). encode_lower (x ∷ []) ++ t) (encode-append xs ys)

-- digits after those of the first bytes
encode-after : (k : ℕ) (xs : List ℕ) → encode_lower xs ≡ encode_lower (take k xs) ++ encode_lower (drop k xs)
encode-after k xs = ap encode_lower (sym (take-append-drop k xs)) ∙ encode-append (take k xs) (drop k xs)

-- the digits after those of the first bytes
encode-drop : (k : ℕ) (xs : List ℕ) → drop (2 * k) (encode_lower xs) ≡ encode_lower (drop k xs)
unfolding encode_with
encode-drop zero xs = refl
encode-drop (suc k) [] = drop_all (2 * suc k) [] (omega arith)
encode-drop (suc k) (x ∷ xs) =
    let two : 2 * suc k ≡ suc (suc (2 * k)) = omega arith in
    ap (λ (n : ℕ). drop n (encode_lower (x ∷ xs))) two ∙ encode-drop k xs

-- the digits of the first bytes
encode-take : (k : ℕ) (xs : List ℕ) → take (2 * k) (encode_lower xs) ≡ encode_lower (take k xs)
unfolding encode_with
encode-take zero xs = refl
encode-take (suc k) [] = take_all (2 * suc k) [] (omega arith)
encode-take (suc k) (x ∷ xs) =
    let two : 2 * suc k ≡ suc (suc (2 * k)) = omega arith in
    ap (λ (n : ℕ). take n (encode_lower (x ∷ xs))) two ∙ ap (λ (t : List ℕ). encode_lower (x ∷ []) ++ t) (encode-take k xs)

-- ---- written

-- a list from an index on at which others were written
put_drop : (xs ys : List ℕ) (a k : ℕ) → a ≤ length xs → drop a (take a xs ++ (ys ++ drop k (drop a xs))) ≡ ys ++ drop (a + k) xs
put_drop xs ys a k le = drop_at (take a xs) (ys ++ drop k (drop a xs)) a (length-take-le a xs le) ∙ ap (λ (l : List ℕ). ys ++ l) (drop-drop k a xs)

-- a block more is written in front of those after it
pub block_written : (bytes text rest_after block : List ℕ) (start index size a k : ℕ) → index + size ≤ length bytes → start + 2 * length bytes ≤ length text
    → a ≡ start + 2 * index → k ≡ 2 * size → block ≡ encode_lower (take size (drop index bytes))
    → AreWritten bytes (index + size) start text rest_after → AreWritten bytes index start (take a text ++ (block ++ drop k (drop a text))) rest_after
block_written bytes text rest_after block start index size a k within room at two is written =
    let next : a + k ≡ start + 2 * (index + size) = omega arith in
    let front : List ℕ = encode_lower (take size (drop index bytes)) in
    ap (λ (n : ℕ). drop n (take a text ++ (block ++ drop k (drop a text)))) (sym at) ∙ put_drop text block a k (omega arith)
    ∙ ap (λ (n : ℕ). block ++ drop n text) next ∙ ap (λ (l : List ℕ). block ++ l) written
    ∙ ap (λ (l : List ℕ). l ++ (encode_lower (drop (index + size) bytes) ++ rest_after)) is
    ∙ ap (λ (l : List ℕ). front ++ (encode_lower l ++ rest_after)) (sym (drop-drop size index bytes))
    ∙ sym (append_assoc front (encode_lower (drop size (drop index bytes))) rest_after)
    ∙ ap (λ (l : List ℕ). l ++ rest_after) (sym (encode-after size (drop index bytes)))

-- what is written from an index on is written from a later one on
pub written_later : (bytes text rest_after : List ℕ) (start index later : ℕ) → index ≤ later → later ≤ length bytes → AreWritten bytes index start text rest_after → AreWritten bytes later start text rest_after
written_later bytes text rest_after start index later le within written =
    let on : start + 2 * later ≡ start + 2 * index + 2 * (later - index) = omega arith in
    let whole : index + (later - index) ≡ later = omega arith in
    let long : 2 * (later - index) ≤ length (encode_lower (drop index bytes)) = omega (arith, hex_length (drop index bytes), length-drop index bytes) in
    ap (λ (n : ℕ). drop n text) on ∙ sym (drop-drop (2 * (later - index)) (start + 2 * index) text)
    ∙ ap (λ (l : List ℕ). drop (2 * (later - index)) l) written
    ∙ drop-append-le (2 * (later - index)) (encode_lower (drop index bytes)) rest_after long
    ∙ ap (λ (l : List ℕ). l ++ rest_after) (encode-drop (later - index) (drop index bytes) ∙ ap encode_lower (drop-drop (later - index) index bytes))
    ∙ ap (λ (n : ℕ). encode_lower (drop n bytes) ++ rest_after) whole

-- all are written
pub all_written : (bytes text rest_after : List ℕ) (start index : ℕ) → index < 1 → AreWritten bytes index start text rest_after → drop start text ≡ encode_lower bytes ++ rest_after
all_written bytes text rest_after start index none h =
    let nothing : index ≡ 0 = omega (arith, none) in
    let same : start ≡ start + 2 * 0 = omega arith in
    ap (λ (n : ℕ). drop n text) same ∙ subst (λ (k : ℕ). AreWritten bytes k start text rest_after) nothing h

-- ---- read

bytes-append : (xs ys : List ℕ) → IsBytes xs → IsBytes ys → IsBytes (xs ++ ys)
bytes-append [] ys p q i = q i
bytes-append (x ∷ xs) ys p q zero = p 0
bytes-append (x ∷ xs) ys p q (suc i) = bytes-append xs ys (λ k. p (suc k)) q i

bytes-drop : (n : ℕ) (xs : List ℕ) → IsBytes xs → IsBytes (drop n xs)
bytes-drop n xs p i = subst (λ (v : ℕ). v < 256) (sym (get_or-drop n xs i 0)) (p (n + i))

bytes-take : (n : ℕ) (xs : List ℕ) → IsBytes xs → IsBytes (take n xs)
bytes-take zero xs p i = omega arith
bytes-take (suc n) [] p i = p i
bytes-take (suc n) (x ∷ xs) p zero = p 0
bytes-take (suc n) (x ∷ xs) p (suc i) = bytes-take n xs (λ k. p (suc k)) i

-- before the first block is read
pub none_read : (text bytes : List ℕ) → length text ≡ 2 * length bytes → AreRead text (length bytes) bytes
unfolding encode_with
none_read text bytes size = record {
  digits = drop_all (2 * length bytes) text (omega (arith, size)) ∙ ap encode_lower (sym (drop-length bytes));
  are_bytes = subst IsBytes (sym (drop-length bytes)) (λ i. omega arith);
}

-- a block more is read in front of those after it
pub block_read : (text bytes block : List ℕ) (index k : ℕ) → k ≡ 16 → index + 16 ≤ length bytes → take 32 (drop (2 * index) text) ≡ encode_lower block → IsBytes block
    → AreRead text (index + 16) bytes → AreRead text index (take index bytes ++ (block ++ drop k (drop index bytes)))
block_read text bytes block index k size within is fits rest_after =
    let rest = drop (index + 16) bytes in
    let now = put_drop bytes block index k (omega (arith, within)) ∙ ap (λ (n : ℕ). block ++ drop (index + n) bytes) size in
    let next : 2 * index + 32 ≡ 2 * (index + 16) = omega arith in
    record {
      digits = sym (take-append-drop 32 (drop (2 * index) text)) ∙ ap (λ (l : List ℕ). l ++ drop 32 (drop (2 * index) text)) is
          ∙ ap (λ (l : List ℕ). encode_lower block ++ l) (drop-drop 32 (2 * index) text ∙ ap (λ (n : ℕ). drop n text) next ∙ rest_after.digits)
          ∙ sym (encode-append block rest) ∙ ap encode_lower (sym now);
      are_bytes = subst IsBytes (sym now) (bytes-append block rest fits rest_after.are_bytes);
    }

-- what is read from an index on is read from a later one on
pub read_later : (text bytes : List ℕ) (index later : ℕ) → index ≤ later → AreRead text index bytes → AreRead text later bytes
read_later text bytes index later le a =
    let on : 2 * later ≡ 2 * index + 2 * (later - index) = omega (arith, le) in
    let whole : index + (later - index) ≡ later = omega (arith, le) in
    let same : drop (later - index) (drop index bytes) ≡ drop later bytes = drop-drop (later - index) index bytes ∙ ap (λ (n : ℕ). drop n bytes) whole in
    record {
      digits = ap (λ (n : ℕ). drop n text) on ∙ sym (drop-drop (2 * (later - index)) (2 * index) text)
          ∙ ap (λ (l : List ℕ). drop (2 * (later - index)) l) a.digits ∙ encode-drop (later - index) (drop index bytes) ∙ ap encode_lower same;
      are_bytes = subst IsBytes same (bytes-drop (later - index) (drop index bytes) a.are_bytes);
    }

-- all are read
pub all_read : (text bytes : List ℕ) (index : ℕ) → index ≡ 0 → AreRead text index bytes → (text ≡ encode_lower bytes) × IsBytes bytes
all_read text bytes index none a =
    let whole = subst (λ (k : ℕ). AreRead text k bytes) none a in
    let nothing : 0 ≡ 2 * 0 = omega arith in
    (ap (λ (n : ℕ). drop n text) nothing ∙ whole.digits, whole.are_bytes)

-- the digits of some bytes are those in front of more
pub front_digits : (xs rest : List ℕ) (n m : ℕ) → length xs ≡ n → m ≡ 2 * n → take m (encode_lower (xs ++ rest)) ≡ encode_lower xs
front_digits xs rest n m e two = ap (λ (k : ℕ). take k (encode_lower (xs ++ rest))) two ∙ encode-take n (xs ++ rest) ∙ ap encode_lower (take_at xs rest n e)

-- a text that somewhere has a block of no digits has the digits of no bytes
pub block_none : (text : List ℕ) (index : ℕ) → ((bytes : List ℕ) → IsBytes bytes → take 32 (drop (2 * index) text) ≢ encode_lower bytes) → (others : List ℕ) → IsBytes others → text ≢ encode_lower others
block_none text index none others fits is =
    let two : 32 ≡ 2 * 16 = omega arith in
    none (take 16 (drop index others)) (bytes-take 16 (drop index others) (bytes-drop index others fits))
    (ap (λ (t : List ℕ). take 32 (drop (2 * index) t)) is ∙ ap (λ (l : List ℕ). take 32 l) (encode-drop index others)
    ∙ ap (λ (n : ℕ). take n (encode_lower (drop index others))) two ∙ encode-take 16 (drop index others))

-- before the first block is written
pub none_written : (bytes was : List ℕ) → was ≡ encode_lower (drop (length bytes) bytes) ++ was
unfolding encode_with
none_written bytes was = ap (λ (l : List ℕ). encode_lower l ++ was) (sym (drop-length bytes))

-- an odd number of digits is none
pub odd_none : (text others : List ℕ) → 0 < length text % 2 → text ≢ encode_lower others
odd_none text others odd is = let size : length text ≡ 2 * length others = ap length is ∙ hex_length others in omega (arith, odd, size)
