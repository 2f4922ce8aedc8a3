-- Feeds and their words.
use Rattle.std.proofs.Common.{◌≡◌, ℕ, zero, suc, ◌+◌, ◌-◌, ◌*◌, ◌<◌, ◌≤◌, Some, slice_get, List, [], ◌∷◌, ◌++◌, length, take, get_or, refl, ap, sym, ◌∙◌, arith, append_assoc, length-append}
use lib.ListN.{get_or-append}
use Rattle.std.proofs.lemmas.List.{get_or-append_right, take-append-le, take_more}
use Rattle.std.proofs.lemmas.Option.{slice_get_within, get_or_from_slice_get}
use mathlib.Core.List.{IsPrefix}
use Rattle.hx_blog.specs.Packed.{packed, words_of}
use Rattle.hx_blog.specs.Feed.{Entries, feed}

pub feed-append : {E : Type 0} (xs ys : Entries E) → feed (xs ++ ys) ≡ feed xs ++ feed ys
feed-append [] ys = refl
feed-append (x ∷ xs) ys = ap (λ ms. x.1 ++ ms) (feed-append xs ys) ∙ sym (append_assoc x.1 (feed xs) (feed ys))

pub feed-prefix : {E : Type 0} (xs ys : Entries E) → IsPrefix xs ys → IsPrefix (feed xs) (feed ys)
feed-prefix xs ys p = (feed p.0, sym (feed-append xs p.0) ∙ ap feed p.1)

pub length-packed : (m : List ℕ) → length (packed m) ≡ 6
unfolding packed
length-packed m = refl

pub words-append : (ms ns : List (List ℕ)) → words_of (ms ++ ns) ≡ words_of ms ++ words_of ns
words-append [] ns = refl
words-append (m ∷ ms) ns = ap (λ ws. packed m ++ ws) (words-append ms ns) ∙ sym (append_assoc (packed m) (words_of ms) (words_of ns))

pub length-words : (ms : List (List ℕ)) → length (words_of ms) ≡ 6 * length ms
length-words [] = refl
length-words (m ∷ ms) = omega (arith, length-append (packed m) (words_of ms), length-packed m, length-words ms)

-- the words of a front are the front of the words
pub words-front : (ms ns : List (List ℕ)) (i : ℕ) → IsPrefix ms ns → i < 6 * length ms → get_or (words_of ns) i 0 ≡ get_or (words_of ms) i 0
words-front ms ns i p h = ap (λ ks. get_or (words_of ks) i 0) (sym p.1) ∙ ap (λ ws. get_or ws i 0) (words-append ms p.0) ∙ get_or-append (words_of ms) (words_of p.0) 0 i (omega (arith, length-words ms))

-- a word of the message at j
pub word_of : (ms : List (List ℕ)) (j k : ℕ) → j < length ms → k < 6 → get_or (words_of ms) (6 * j + k) 0 ≡ get_or (packed (get_or ms j [])) k 0
word_of [] j k h l = absurd (omega arith)
word_of (m ∷ ms) zero k h l =
    let z : 6 * 0 + k ≡ k = omega arith in
    ap (λ i. get_or (packed m ++ words_of ms) i 0) z ∙ get_or-append (packed m) (words_of ms) 0 k (omega (arith, length-packed m))
word_of (m ∷ ms) (suc j) k h l =
    let z : 6 * suc j + k - 6 ≡ 6 * j + k = omega arith in
    get_or-append_right (packed m) (words_of ms) 6 (6 * suc j + k) 0 (length-packed m) (omega arith) ∙ ap (λ i. get_or (words_of ms) i 0) z ∙ word_of ms j k (omega arith) l

-- five words and the sixth
pub all_of_six : (m : List ℕ) → take 5 (packed m) ++ get_or (packed m) 5 0 ∷ [] ≡ packed m
unfolding packed
all_of_six m = refl

pub first_five : (m : List ℕ) → length (take 5 (packed m)) ≡ 5
unfolding packed
first_five m = refl

-- what was read of a list is what was read of a longer one
pub same_front : {E : Type 0} (n : ℕ) (xs ys : Entries E) → IsPrefix xs ys → n ≤ length (feed xs) → take n (feed ys) ≡ take n (feed xs)
same_front n xs ys p h = let q = feed-prefix xs ys p in ap (take n) (sym q.1) ∙ take-append-le n (feed xs) q.0 h

-- one message more was read
pub one_more : (n : ℕ) (ms : List (List ℕ)) (m : List ℕ) → slice_get ms n ≡ Some m → take (n + 1) ms ≡ take n ms ++ m ∷ []
one_more n ms m is = take_more ms n [] (slice_get_within ms n m is) ∙ ap (λ x. take n ms ++ x ∷ []) (get_or_from_slice_get ms n m [] is)
