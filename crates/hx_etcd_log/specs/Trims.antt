-- Where a log may be trimmed.
use Rattle.std.specs.Prelude.{◌≡◌, ℕ, ◌+◌, ◌≤◌, min, List, Option, Some, None}
use Rattle.std.specs.List.{AllByRecursion}

-- a copy has the record of this number, and `stay` records after it
abbrev pub HasAfter : (number stay : ℕ) → (shown : Option ℕ) → Type 0
HasAfter number stay shown = (count : ℕ) × (shown ≡ Some count) × (number + stay ≤ count)

-- the least of what copies have shown, of which each has shown something
pub record IsLeast (counts : List (Option ℕ)) (least : ℕ) : Type 0 where
  pub all : AllByRecursion (HasAfter least 0) counts
  pub most : (n : ℕ) → AllByRecursion (HasAfter n 0) counts → n ≤ least

-- the lesser of two numbers, of which the first may not be there
abbrev pub lesser : Option ℕ → ℕ → Option ℕ
lesser None other = Some other
lesser (Some one) other = Some (min one other)
