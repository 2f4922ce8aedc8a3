-- A link in one word.
use Rattle.std.specs.Prelude.{ℕ, ◌+◌, ◌-◌, ◌==◌, Option, Some, None, if◌then◌else◌}

-- the key that a number leads to: none from 0, and else the number before it
abbrev pub link_of : ℕ → Option ℕ
link_of number = if number == 0 then None else Some (number - 1)

-- the number that leads there
abbrev pub link_number : Option ℕ → ℕ
link_number None = 0
link_number (Some key) = key + 1
