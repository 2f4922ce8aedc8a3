-- The 48 bytes of a message and its six words.
use Rattle.std.proofs.Common.{◌≡◌, ℕ, zero, suc, ◌+◌, ◌-◌, ◌*◌, ◌/◌, ◌%◌, ◌<◌, ◌≤◌, Some, slice_get, List, [], ◌∷◌, ◌++◌, length, take, drop, get_or, set, replicate, refl, ap, sym, ◌∙◌, subst, arith, length-append, length-take, length-drop}
use Rattle.std.specs.Int.{w64, from_be_bytes, to_be_bytes}
use Rattle.std.specs.List.{All}
use Rattle.std.proofs.lemmas.Nat.{be_bytes_8}
use Rattle.std.proofs.lemmas.Option.{slice_get-get_or}
use Rattle.std.proofs.lemmas.List.{drop_more, get_or-take, get_or-drop, get_or_past, get_or-append_right}
use Rattle.std.proofs.Math.Nat.{div-add-mod, mod-lt}
use native.Mathlib.Decide.{dec_lt}
use lib.ListN.{get_or-append, length-replicate}
use Rattle.hx_blog.specs.Packed.{IsMessage, padded, word_at, packed, words_of}
use Rattle.hx_blog.proofs.Feeds.{word_of}

pub length-padded : (m : List ℕ) → length m ≤ 44 → length (padded m) ≡ 48
length-padded m h = omega (arith, length-append m (replicate (47 - length m) 0), length-replicate {A = ℕ} (47 - length m) 0)

-- a byte of the 48
pub padded_bytes : (m : List ℕ) (k : ℕ) → IsMessage m → get_or (padded m) k 0 < 256
padded_bytes m zero is = omega (arith, is.0)
padded_bytes m (suc k) is = by (dec_lt k (length m))
  where
    by : Dec (k < length m) → get_or (m ++ replicate (47 - length m) 0) k 0 < 256
    by (yes l) = subst (λ b. b < 256) (sym (get_or-append m (replicate (47 - length m) 0) 0 k l)) (is.1 k 0 l)
    by (no l) = subst (λ b. b < 256) (sym (get_or-append_right m (replicate (47 - length m) 0) (length m) k 0 refl (omega arith) ∙ zeros (47 - length m) (k - length m))) (omega arith)
      where
        zeros : (n i : ℕ) → get_or (replicate n 0) i 0 ≡ zero
        zeros zero i = refl
        zeros (suc n) zero = refl
        zeros (suc n) (suc i) = zeros n i

packed_at : (m : List ℕ) (i : ℕ) → i < 6 → get_or (packed m) i 0 ≡ word_at (padded m) (8 * i)
unfolding packed
packed_at m zero l = refl
packed_at m (suc zero) l = refl
packed_at m (suc (suc zero)) l = refl
packed_at m (suc (suc (suc zero))) l = refl
packed_at m (suc (suc (suc (suc zero)))) l = refl
packed_at m (suc (suc (suc (suc (suc zero))))) l = refl
packed_at m (suc (suc (suc (suc (suc (suc i)))))) l = absurd (omega arith)

-- byte k of the 48, from the word that has it
pub byte_in : (m : List ℕ) (k n : ℕ) → IsMessage m → k < 48 → n ≡ get_or (packed m) (k / 8) 0 → get_or (to_be_bytes w64 n) (k % 8) 0 ≡ get_or (padded m) k 0
unfolding word_at
byte_in m k n is h e =
    let xs = padded m in
    let i = k / 8 in
    let whole : 8 * i + k % 8 ≡ k = div-add-mod k 8 in
    let low : k % 8 < 8 = mod-lt k (omega arith) in
    let long = length-padded m is.0 in
    let bs = take 8 (drop (8 * i) xs) in
    let eight : length bs ≡ 8 = omega (arith, length-take 8 (drop (8 * i) xs), length-drop (8 * i) xs, long, whole) in
    let small : (j : ℕ) → get_or bs j 0 < 256 = λ j. small_at j (dec_lt j 8) in
    let bytes : to_be_bytes w64 n ≡ bs = be_bytes_8 bs n eight small (e ∙ packed_at m i (omega arith)) in
    ap (λ l. get_or l (k % 8) 0) bytes ∙ (get_or-take 8 (drop (8 * i) xs) (k % 8) 0 low ∙ (get_or-drop (8 * i) xs (k % 8) 0 ∙ ap (λ z. get_or xs z 0) whole))
  where
    small_at : (j : ℕ) → Dec (j < 8) → get_or (take 8 (drop (8 * (k / 8)) (padded m))) j 0 < 256
    small_at j (yes l) = subst (λ b. b < 256) (sym (get_or-take 8 (drop (8 * (k / 8)) (padded m)) j 0 l ∙ get_or-drop (8 * (k / 8)) (padded m) j 0)) (padded_bytes m (8 * (k / 8) + j) is)
    small_at j (no l) = subst (λ b. b < 256) (sym (get_or_past (take 8 (drop (8 * (k / 8)) (padded m))) j 0 (omega (arith, length-take 8 (drop (8 * (k / 8)) (padded m)))))) (omega arith)

-- six words, of which the last was put in
six : (ws : List ℕ) (m : List ℕ) (n : ℕ) → length ws ≡ 6 → ((k : ℕ) → k < 5 → get_or ws k 0 ≡ get_or (packed m) k 0) → n ≡ get_or (packed m) 5 0 → set ws 5 n ≡ packed m
unfolding packed
six [] m n l h e = absurd (omega arith)
six (a ∷ []) m n l h e = absurd (omega arith)
six (a ∷ b ∷ []) m n l h e = absurd (omega arith)
six (a ∷ b ∷ c ∷ []) m n l h e = absurd (omega arith)
six (a ∷ b ∷ c ∷ d ∷ []) m n l h e = absurd (omega arith)
six (a ∷ b ∷ c ∷ d ∷ f ∷ []) m n l h e = absurd (omega arith)
six (a ∷ b ∷ c ∷ d ∷ f ∷ g ∷ []) m n l h e =
    let h0 = h 0 (omega arith) in
    let h1 = h 1 (omega arith) in
    let h2 = h 2 (omega arith) in
    let h3 = h 3 (omega arith) in
    let h4 = h 4 (omega arith) in
    λ i. h0 i ∷ h1 i ∷ h2 i ∷ h3 i ∷ h4 i ∷ e i ∷ []
six (a ∷ b ∷ c ∷ d ∷ f ∷ g ∷ x ∷ ws) m n l h e = absurd (omega arith)

-- a message, from its six words in a feed
pub message_loaded : (ms : List (List ℕ)) (index : ℕ) (front : List ℕ) (last : ℕ) (message : List ℕ) → index < length ms → All IsMessage ms → length front ≡ 6
    → ((k : ℕ) → k < 5 → get_or front k 0 ≡ get_or (packed (get_or ms index [])) k 0) → last ≡ get_or (words_of ms) (6 * index + 6 - 1) 0
    → ((m : List ℕ) → IsMessage m → set front 5 last ≡ packed m → message ≡ m) → slice_get ms index ≡ Some message
message_loaded ms index front last message h all six_words words sixth unpacked =
    let m = get_or ms index [] in
    let word_index : 6 * index + 6 - 1 ≡ 6 * index + 5 = omega arith in
    let last_is : last ≡ get_or (packed m) 5 0 = sixth ∙ (ap (λ i. get_or (words_of ms) i 0) word_index ∙ word_of ms index 5 h (omega arith)) in
    slice_get-get_or ms index [] h ∙ ap Some (sym (unpacked m (all index [] h) (six front m last six_words words last_is)))
