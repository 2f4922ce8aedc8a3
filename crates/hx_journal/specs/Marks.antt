-- The lines of the journal's own.
use Rattle.std.specs.Prelude.{ℕ, List, ◌∷◌, ◌++◌}
use Rattle.std.specs.Fmt.{decimal}

-- `#OFFSET SIZE PREVIOUS SUM`: the line that ends a block
abbrev pub mark_of : (first_number : ℕ) → (size : ℕ) → (previous : ℕ) → (sum : ℕ) → List ℕ
mark_of first_number size previous sum =
    35 ∷ decimal first_number ++ 32 ∷ decimal size ++ 32 ∷ decimal previous ++ 32 ∷ decimal sum
