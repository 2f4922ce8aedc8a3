-- A list by rank. `ahead x y` says that x ranks above y, wherever the two stand; those that rank alike stay in their
-- order.
use Rattle.std.specs.Prelude.{Bool, List, [], ◌∷◌, Option, Some, None, if◌then◌else◌}

module _ {X : Type 0} (ahead : X → X → Bool) where
  -- x put before the first that does not rank above it
  abbrev pub placed : X → List X → List X
  placed x [] = x ∷ []
  placed x (y ∷ ys) = if ahead y x then y ∷ placed x ys else x ∷ y ∷ ys

  -- the list by rank
  abbrev pub by_rank : List X → List X
  by_rank [] = []
  by_rank (x ∷ xs) = placed x (by_rank xs)

  -- x, unless the other ranks above it
  abbrev pub higher : X → Option X → Option X
  higher x None = Some x
  higher x (Some y) = Some (if ahead y x then y else x)

  -- of those that pass the test, the one that ranks above all others, or is the earliest of those that rank alike
  abbrev pub first_of : (X → Bool) → List X → Option X
  first_of test [] = None
  first_of test (x ∷ xs) = if test x then higher x (first_of test xs) else first_of test xs
