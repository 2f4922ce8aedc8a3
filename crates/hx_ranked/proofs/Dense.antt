-- Blocks of which each two neighbours hold more than half a block's capacity: what preserves that, and how many there
-- are.
use Rattle.std.proofs.Common.{◌≡◌, ℕ, suc, ◌+◌, ◌*◌, ◌<◌, ◌≤◌, List, [], ◌∷◌, ◌++◌, length, get_or, set, take, drop, ap, sym, subst, ◌∙◌, arith, add-one}
use Rattle.std.proofs.lemmas.List.{set_split, drop_more, take_more, length-append, take-append-drop, take_all, length-drop, length-take-le, take_at, drop_at, drop-set-lt, drop-drop}
use Rattle.std.specs.List.{remove}
use Rattle.hx_ranked.specs.declared.entry.Entry.{Entry}
use Rattle.hx_ranked.specs.Ranked.{Every, flat, IsFilled, AreBlocks, IsLargeWith, IsDense, Mends}
use Rattle.hx_ranked.proofs.Flat.{split-blocks}
use Rattle.hx_ranked.proofs.Halved.{halved, halved-is, length-front, length-back}
use Rattle.hx_ranked.proofs.Joined.{joined, joined-is}

large-more : (b c : List Entry) (ys : List (List Entry)) → length b ≤ length c → IsLargeWith b ys → IsLargeWith c ys
large-more b c [] le h = tt
large-more b c (y ∷ ys) le h = omega arith

-- a block may grow
dense-more : (xs : List (List Entry)) (b c : List Entry) (ys : List (List Entry)) → length b ≤ length c → IsDense (xs ++ b ∷ ys) → IsDense (xs ++ c ∷ ys)
dense-more [] b c ys le h = (large-more b c ys le h.0, h.1)
dense-more (x ∷ []) b c ys le h = (omega (arith, h.0), dense-more [] b c ys le h.1)
dense-more (x ∷ y ∷ xs) b c ys le h = (h.0, dense-more (y ∷ xs) b c ys le h.1)

large-half : (k : List Entry) (ys : List (List Entry)) → length k ≡ 128 → Every IsFilled ys → IsLargeWith k ys
large-half k [] n e = tt
large-half k (y ∷ ys) n e = omega (arith, e.0.0)

-- a block may become two halves
dense-halves : (xs : List (List Entry)) (b f k : List Entry) (ys : List (List Entry)) → length f ≡ 128 → length k ≡ 128 → Every IsFilled (xs ++ b ∷ ys) → IsDense (xs ++ b ∷ ys) → IsDense (xs ++ f ∷ k ∷ ys)
dense-halves [] b f k ys n m e h = (omega arith, (large-half k ys m e.1, h.1))
dense-halves (x ∷ []) b f k ys n m e h = (omega (arith, e.0.0), dense-halves [] b f k ys n m e.1 h.1)
dense-halves (x ∷ y ∷ xs) b f k ys n m e h = (h.0, dense-halves (y ∷ xs) b f k ys n m e.1 h.1)

pub dense-left : (xs ys : List (List Entry)) → IsDense (xs ++ ys) → IsDense xs
dense-left [] ys h = tt
dense-left (x ∷ []) ys h = (tt, tt)
dense-left (x ∷ y ∷ xs) ys h = (h.0, dense-left (y ∷ xs) ys h.1)

pub dense-right : (xs ys : List (List Entry)) → IsDense (xs ++ ys) → IsDense ys
dense-right [] ys h = h
dense-right (x ∷ xs) ys h = dense-right xs ys h.1

pub dense-take : (i : ℕ) (bs : List (List Entry)) → IsDense bs → IsDense (take i bs)
dense-take i bs h = dense-left (take i bs) (drop i bs) (subst IsDense (sym (take-append-drop i bs)) h)

pub dense-drop : (i : ℕ) (bs : List (List Entry)) → IsDense bs → IsDense (drop i bs)
dense-drop i bs h = dense-right (take i bs) (drop i bs) (subst IsDense (sym (take-append-drop i bs)) h)

module _ (bs : List (List Entry)) (i : ℕ) (b : List Entry) (within : i < length bs) (read : b ≡ get_or bs i b) where
  pub dense-set : (c : List Entry) → length b ≤ length c → IsDense bs → IsDense (set bs i c)
  dense-set c le h =
      subst IsDense (sym (set_split bs i c within ∙ ap (λ n. take i bs ++ c ∷ drop n bs) (sym (add-one i))))
      (dense-more (take i bs) b c (drop (i + 1) bs) le (subst IsDense (split-blocks bs i b within read) h))

-- so there are no more blocks than a 64th of the entries, and one
pub dense-count : (bs : List (List Entry)) → Every IsFilled bs → IsDense bs → 64 * length bs ≤ length (flat bs) + 64
dense-count [] e h = omega arith
dense-count (b ∷ []) e h = omega arith
dense-count (b ∷ c ∷ bs) e h =
    omega (arith, dense-count bs e.1.1 h.1.1, h.0, length-append b (c ++ flat bs), length-append c (flat bs))

pub dense-halved : (bs : List (List Entry)) (are : AreBlocks bs) (i : ℕ) (b : List Entry) (within : i < length bs) (read : b ≡ get_or bs i b) (full : length b ≡ 256) → IsDense bs → IsDense (halved bs i b)
dense-halved bs are i b within read full h =
    subst IsDense (sym (halved-is bs are i b within read full)) (dense-halves (take i bs) b (take 128 b) (drop 128 b) (drop (i + 1) bs) (length-front bs are i b within read full) (length-back bs are i b within read full) (subst (Every IsFilled) (split-blocks bs i b within read) are.filled) (subst IsDense (split-blocks bs i b within read) h))

dense-short : (xs : List (List Entry)) → length xs ≤ 1 → IsDense xs
dense-short [] n = tt
dense-short (x ∷ []) n = (tt, tt)
dense-short (x ∷ y ∷ xs) n = absurd (omega arith)

-- two parts whose neighbours are large enough
dense-beside : (xs : List (List Entry)) (b k : List Entry) (ys : List (List Entry)) → 128 < length b + length k → IsDense (xs ++ b ∷ []) → IsDense (k ∷ ys) → IsDense (xs ++ b ∷ k ∷ ys)
dense-beside [] b k ys l h m = (l, m)
dense-beside (x ∷ []) b k ys l h m = (h.0, dense-beside [] b k ys l h.1 m)
dense-beside (x ∷ y ∷ xs) b k ys l h m = (h.0, dense-beside (y ∷ xs) b k ys l h.1 m)

-- two parts whose neighbours become one block
dense-as_one : (xs : List (List Entry)) (b k : List Entry) (ys : List (List Entry)) → IsDense (xs ++ b ∷ []) → IsDense (k ∷ ys) → IsDense (xs ++ (b ++ k) ∷ ys)
dense-as_one [] b k ys h m = (large-more k (b ++ k) ys (omega (arith, length-append b k)) m.0, m.1)
dense-as_one (x ∷ []) b k ys h m = (omega (arith, h.0, length-append b k), dense-as_one [] b k ys h.1 m)
dense-as_one (x ∷ y ∷ xs) b k ys h m = (h.0, dense-as_one (y ∷ xs) b k ys h.1 m)

-- no block is after the one at i
pub mends-last : (bs : List (List Entry)) (i : ℕ) → length bs ≤ i + 1 → Mends i bs bs
mends-last bs i n = record {
  keeps = λ f r. (f, dense-short (drop i bs) (omega (arith, length-drop i bs)));
  closes = λ f r. subst IsDense (take_all (i + 1) bs n) f;
}

module _ (bs : List (List Entry)) (i : ℕ) (b k : List Entry) (within : i + 1 < length bs) (read : b ≡ get_or bs i b) (read_next : k ≡ get_or bs (i + 1) k) where
  here : i < length bs
  here = omega arith

  drop-both : drop (i + 1) bs ≡ k ∷ drop (i + 1 + 1) bs
  drop-both = drop_more bs (i + 1) k within ∙ ap (λ y. y ∷ drop (i + 1 + 1) bs) (sym read_next)

  take-both : take (i + 1) bs ≡ take i bs ++ b ∷ []
  take-both = take_more bs i b here ∙ ap (λ y. take i bs ++ y ∷ []) (sym read)

  whole : bs ≡ take i bs ++ b ∷ k ∷ drop (i + 1 + 1) bs
  whole = split-blocks bs i b here read ∙ ap (λ t. take i bs ++ b ∷ t) drop-both

  -- the two are large enough
  pub mends-large : 128 < length b + length k → Mends i bs bs
  mends-large l = record {
    keeps = λ f r. (f, subst IsDense (sym (drop_more bs i b here ∙ ap (λ y. y ∷ drop (i + 1) bs) (sym read))) (subst (IsLargeWith b) (sym drop-both) l, r));
    closes = λ f r. subst IsDense (sym whole) (dense-beside (take i bs) b k (drop (i + 1 + 1) bs) l (subst IsDense take-both f) (subst IsDense drop-both r));
  }

  -- the two are one
  pub mends-joined : (are : AreBlocks bs) → Mends i bs (joined bs i b k)
  mends-joined are =
      let is = joined-is bs are i b k within read read_next in
      let n = length-take-le i bs (omega arith) in
      record {
        keeps = λ f r. (
          subst IsDense (sym (ap (take i) is ∙ take_at (take i bs) ((b ++ k) ∷ drop (i + 1 + 1) bs) i n)) f,
          subst IsDense (sym (ap (drop i) is ∙ drop_at (take i bs) ((b ++ k) ∷ drop (i + 1 + 1) bs) i n)) (dense-as_one [] b k (drop (i + 1 + 1) bs) (tt, tt) (subst IsDense drop-both r)),
        );
        closes = λ f r. subst IsDense (sym is) (dense-as_one (take i bs) b k (drop (i + 1 + 1) bs) (subst IsDense take-both f) (subst IsDense drop-both r));
      }

pub rest-set : (bs : List (List Entry)) (i : ℕ) (c : List Entry) → IsDense bs → IsDense (drop (i + 1) (set bs i c))
rest-set bs i c h = subst IsDense (sym (drop-set-lt (i + 1) bs i c (omega arith))) (dense-drop (i + 1) bs h)

pub rest-gone : (bs : List (List Entry)) (i : ℕ) → i < length bs → IsDense bs → IsDense (drop (i + 1) (remove bs i))
rest-gone bs i within h =
    let is = drop_at (take i bs) (drop (suc i) bs) i (length-take-le i bs (omega arith)) in
    subst IsDense (ap (drop 1) (sym is) ∙ drop-drop 1 i (remove bs i)) (dense-drop 1 (drop (suc i) bs) (dense-drop (suc i) bs h))
