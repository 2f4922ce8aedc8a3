-- Counts of which one was raised.
use Rattle.std.proofs.Common.{◌≡◌, ℕ, zero, suc, List, [], ◌∷◌, length, slice_index, refl, ap}
use Rattle.hx_refs.specs.Numbers.{raised}

pub length-raised : (xs : List ℕ) (i : ℕ) → length (raised xs i) ≡ length xs
length-raised [] i = refl
length-raised (x ∷ xs) zero = refl
length-raised (x ∷ xs) (suc i) = ap (λ n. suc n) (length-raised xs i)

-- the others stay as they are
pub raised-other : (xs : List ℕ) (i k : ℕ) → (i ≡ k → ⊥) → slice_index (raised xs i) k ≡ slice_index xs k
raised-other [] i k h = refl
raised-other (x ∷ xs) zero zero h = absurd (h refl)
raised-other (x ∷ xs) zero (suc k) h = refl
raised-other (x ∷ xs) (suc i) zero h = refl
raised-other (x ∷ xs) (suc i) (suc k) h = raised-other xs i k (λ e. h (ap (λ n. suc n) e))
