-- Lists whose numbers increase.
use Rattle.std.proofs.Common.{◌≡◌, ℕ, ◌<◌, List, [], ◌∷◌, nat_cmp, Less, arith}
use Rattle.std.proofs.lemmas.Bool.Decides.{nat_tests}
use Rattle.std.specs.List.{AllByRecursion}
use Rattle.std.specs.List.Sorted.{IsStrictlySortedBy}
use Rattle.hx_day.specs.Increasing.{AreIncreasing}

all_above : (n : ℕ) (xs : List ℕ) → AllByRecursion (λ y. nat_cmp n y ≡ Less) xs → AllByRecursion (λ y. n < y) xs
all_above n [] h = tt
all_above n (x ∷ xs) h = (below n x h.0, all_above n xs h.1)
  where
    below : (n x : ℕ) → nat_cmp n x ≡ Less → n < x
    below n x h = grind (arith, nat_tests)

-- keys that are in order, if they are numbers
pub increasing_from_sorted : (xs : List ℕ) → IsStrictlySortedBy nat_cmp xs → AreIncreasing xs
unfolding IsStrictlySortedBy
increasing_from_sorted [] h = tt
increasing_from_sorted (x ∷ xs) h = (all_above x xs h.0, increasing_from_sorted xs h.1)
