-- Lists whose numbers increase.
use Rattle.std.specs.Prelude.{ℕ, ◌<◌, List, [], ◌∷◌}
use Rattle.std.specs.List.{AllByRecursion}

-- each number is below every number after it
abbrev pub AreIncreasing : List ℕ → Type 0
AreIncreasing [] = Unit {0}
AreIncreasing (x ∷ xs) = AllByRecursion (λ y. x < y) xs × AreIncreasing xs
