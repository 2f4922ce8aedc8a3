-- Beginnings of one list.
use Rattle.std.proofs.Common.{◌≡◌, ◌≤◌, List, [], ◌∷◌, length, ◌⊎◌, inl, inr, lt_of_not-le, refl, arith}
use mathlib.Core.List.{IsPrefix}
use Rattle.hx_units.proofs.Prefixes.{prefix_self}

-- of two beginnings of one list the shorter begins the longer
pub prefix_shorter : {A : Type 0} (xs ys zs : List A) → IsPrefix xs zs → IsPrefix ys zs → length xs ≤ length ys → IsPrefix xs ys
prefix_shorter [] ys zs p q le = (ys, refl)
prefix_shorter (x ∷ xs) [] zs p q le = absurd (omega arith)
prefix_shorter (x ∷ xs) (y ∷ ys) [] p q le = absurd (cc (p.1))
prefix_shorter (x ∷ xs) (y ∷ ys) (z ∷ zs) p q le =
    let heads : x ≡ y = cc (p.1, q.1) in
    let rest = prefix_shorter xs ys zs (p.0, cc (p.1)) (q.0, cc (q.1)) (omega arith) in
    (rest.0, cc (heads, rest.1))

-- the longer of two beginnings
pub longest : {A : Type 0} (xs ys all : List A) → IsPrefix xs all → IsPrefix ys all → Dec (length ys ≤ length xs)
    → (zs : List A) × IsPrefix zs all × IsPrefix xs zs × IsPrefix ys zs × ((zs ≡ xs) ⊎ (zs ≡ ys))
longest xs ys all p q (yes d) = (xs, p, prefix_self xs, prefix_shorter ys xs all q p d, inl refl)
longest xs ys all p q (no d) = let h = lt_of_not-le d in (ys, q, prefix_shorter xs ys all p q (omega arith), prefix_self ys, inr refl)
