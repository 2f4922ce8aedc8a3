-- Texts in one.
use Rattle.std.proofs.Common.{◌≡◌, ℕ, zero, suc, ◌+◌, ◌-◌, ◌<◌, ◌≤◌, List, [], ◌∷◌, ◌++◌, length, take, drop, get_or, refl, ap, sym, ◌∙◌, subst, arith, length-append}
use Rattle.std.proofs.lemmas.List.{length-drop, drop-drop, drop-take, drop_all, take_all, drop-append-le, take-append-le}
use Rattle.hx_engine.specs.Pieces.{pieces, AreEnds}

pub many : (s : ℕ) (t es : List ℕ) → length (pieces s t es) ≡ length es
many s t [] = refl
many s t (e ∷ es) = ap suc (many e (drop (e - s) t) es)

-- One more.

later : (s e end : ℕ) (t b : List ℕ) → s ≤ e → e - s ≤ length t → end ≡ s + length (t ++ b) → end ≡ e + length (drop (e - s) t ++ b)
later s e end t b low within is = omega (arith, low, within, is, length-append t b, length-append (drop (e - s) t) b, length-drop (e - s) t)

pub ends_more : (s : ℕ) (t b es : List ℕ) (end : ℕ) → AreEnds s t es → end ≡ s + length (t ++ b) → AreEnds s (t ++ b) (es ++ end ∷ [])
ends_more s t b [] end are is = (omega (arith, is), omega (arith, is), drop_all (end - s) (t ++ b) (omega (arith, is)))
ends_more s t b (e ∷ es) end (low, within, are) is = (
  low,
  omega (arith, within, length-append t b),
  subst (λ x. AreEnds e x (es ++ end ∷ [])) (sym (drop-append-le (e - s) t b within)) (ends_more e (drop (e - s) t) b es end are (later s e end t b low within is)),
)

pub pieces_more : (s : ℕ) (t b es : List ℕ) (end : ℕ) → AreEnds s t es → end ≡ s + length (t ++ b) → pieces s (t ++ b) (es ++ end ∷ []) ≡ pieces s t es ++ b ∷ []
pieces_more s t b [] end none is = ap (λ (l : List ℕ). l ∷ []) (take_all (end - s) (t ++ b) (omega (arith, is)) ∙ ap (λ (l : List ℕ). l ++ b) none)
pieces_more s t b (e ∷ es) end (low, within, are) is =
    (λ i. take-append-le (e - s) t b within i ∷ pieces e (drop-append-le (e - s) t b within i) (es ++ end ∷ []))
    ∙ ap (λ (l : List (List ℕ)). take (e - s) t ∷ l) (pieces_more e (drop (e - s) t) b es end are (later s e end t b low within is))

-- One of them: it starts where the one before ends.

pub piece_within : (s : ℕ) (t es : List ℕ) (i : ℕ) → AreEnds s t es → i < length es
    → (s ≤ get_or (s ∷ es) i 0) × (get_or (s ∷ es) i 0 ≤ get_or es i 0) × (get_or es i 0 - s ≤ length t)
piece_within s t [] i are in' = absurd (omega (arith, in'))
piece_within s t (e ∷ es) zero (low, within, are) in' = (omega arith, low, within)
piece_within s t (e ∷ es) (suc i) (low, within, are) in' =
    let (a, b, c) = piece_within e (drop (e - s) t) es i are (omega (arith, in')) in
    (omega (arith, low, a), b, omega (arith, low, a, b, c, within, length-drop (e - s) t))

pub piece_at : (s : ℕ) (t es : List ℕ) (i : ℕ) → AreEnds s t es → i < length es
    → take (get_or es i 0 - get_or (s ∷ es) i 0) (drop (get_or (s ∷ es) i 0 - s) t) ≡ get_or (pieces s t es) i []
piece_at s t [] i are in' = absurd (omega (arith, in'))
piece_at s t (e ∷ es) zero are in' = ap (λ n. take (e - s) (drop n t)) (let none : s - s ≡ 0 = omega arith in none)
piece_at s t (e ∷ es) (suc i) (low, within, are) in' =
    let start = get_or (e ∷ es) i 0 in
    let (a, b, c) = piece_within e (drop (e - s) t) es i are (omega (arith, in')) in
    let far : start - s ≡ (e - s) + (start - e) = omega (arith, low, a) in
    ap (λ (l : List ℕ). take (get_or es i 0 - start) l) (ap (λ n. drop n t) far ∙ sym (drop-drop (start - e) (e - s) t))
    ∙ piece_at e (drop (e - s) t) es i are (omega (arith, in'))

-- The first n of them.

shorter : (n m : ℕ) (xs : List ℕ) → n ≤ m → take n (take m xs) ≡ take n xs
shorter zero m xs l = refl
shorter (suc n) zero xs l = absurd (omega arith)
shorter (suc n) (suc m) [] l = refl
shorter (suc n) (suc m) (x ∷ xs) l = ap (λ (v : List ℕ). x ∷ v) (shorter n m xs (omega (arith, l)))

length_shorter : (n : ℕ) (xs : List ℕ) → n ≤ length xs → length (take n xs) ≡ n
length_shorter zero xs l = refl
length_shorter (suc n) [] l = absurd (omega (arith, l))
length_shorter (suc n) (x ∷ xs) l = ap suc (length_shorter n xs (omega (arith, l)))

cut_within : (s : ℕ) (t es : List ℕ) (k : ℕ) → AreEnds s t es → k ≤ length es → (s ≤ get_or (s ∷ es) k 0) × (get_or (s ∷ es) k 0 - s ≤ length t)
cut_within s t es zero are in' = (omega arith, omega arith)
cut_within s t [] (suc k) are in' = absurd (omega (arith, in'))
cut_within s t (e ∷ es) (suc k) (low, within, are) in' =
    let (a, b) = cut_within e (drop (e - s) t) es k are (omega (arith, in')) in
    (omega (arith, low, a), omega (arith, low, a, b, within, length-drop (e - s) t))

-- the front of a text up to an offset, after the first piece
rest : (s e m : ℕ) (t : List ℕ) → s ≤ e → e ≤ m → drop (e - s) (take (m - s) t) ≡ take (m - e) (drop (e - s) t)
rest s e m t low high =
    let far : m - s ≡ (e - s) + (m - e) = omega (arith, low, high) in
    ap (λ n. drop (e - s) (take n t)) far ∙ drop-take (e - s) (m - e) t

pub ends_cut : (s : ℕ) (t es : List ℕ) (k : ℕ) → AreEnds s t es → k ≤ length es → AreEnds s (take (get_or (s ∷ es) k 0 - s) t) (take k es)
ends_cut s t es zero are in' = ap (λ n. take n t) (let none : s - s ≡ 0 = omega arith in none)
ends_cut s t [] (suc k) are in' = absurd (omega (arith, in'))
ends_cut s t (e ∷ es) (suc k) (low, within, are) in' =
    let m = get_or (e ∷ es) k 0 in
    let (a, b) = cut_within e (drop (e - s) t) es k are (omega (arith, in')) in
    let long : m - s ≤ length t = omega (arith, low, a, b, within, length-drop (e - s) t) in (
      low,
      omega (arith, low, a, length_shorter (m - s) t long),
      subst (λ x. AreEnds e x (take k es)) (sym (rest s e m t low a)) (ends_cut e (drop (e - s) t) es k are (omega (arith, in'))),
    )

pub pieces_cut : (s : ℕ) (t es : List ℕ) (k : ℕ) → AreEnds s t es → k ≤ length es → pieces s (take (get_or (s ∷ es) k 0 - s) t) (take k es) ≡ take k (pieces s t es)
pieces_cut s t es zero are in' = refl
pieces_cut s t [] (suc k) are in' = absurd (omega (arith, in'))
pieces_cut s t (e ∷ es) (suc k) (low, within, are) in' =
    let m = get_or (e ∷ es) k 0 in
    let (a, b) = cut_within e (drop (e - s) t) es k are (omega (arith, in')) in
    (λ i. shorter (e - s) (m - s) t (let l : e - s ≤ m - s = omega (arith, a) in l) i ∷ pieces e (rest s e m t low a i) (take k es))
    ∙ ap (λ (l : List (List ℕ)). take (e - s) t ∷ l) (pieces_cut e (drop (e - s) t) es k are (omega (arith, in')))

-- the element at an index does not depend on the default
pub stands_at : (es : List ℕ) (i d x : ℕ) → i < length es → get_or es i d ≡ get_or es i x
stands_at [] i d x in' = absurd (omega (arith, in'))
stands_at (e ∷ es) zero d x in' = refl
stands_at (e ∷ es) (suc i) d x in' = stands_at es i d x (omega (arith, in'))
