-- How large the orders of each level are, as ranked blocks hold it.
use Rattle.std.specs.Prelude.{◌≡◌, ℕ, ◌==◌, List, Option, Some, None, if◌then◌else◌}
use Rattle.std.specs.List.{find}
use Rattle.hx_levels.specs.declared.level_book.levels.Level.{Level}
use Rattle.hx_levels.specs.LevelKeys.{level_key_of_number}
use Rattle.hx_levels.specs.Levels.{LevelStore, level_at}
use Rattle.hx_ranked.specs.declared.entry.Entry.{Entry}
use Rattle.hx_ranked.specs.Ranked.{has_rank}

-- the entry of a level of this number that has had an order with shares
abbrev pub size_of : (number : ℕ) → Level → Entry
size_of number level = record { rank = number; key = 0; least = 1; shares = level.most }

-- the entry of the level of this number, if it has one
abbrev pub size_in : (number : ℕ) → Option Level → Option Entry
size_in number None = None
size_in number (Some level) = if level.most == 0 then None else Some (size_of number level)

-- the entries are those of the levels, each by the number of its level key
abbrev pub AreSizes : LevelStore → List Entry → Type 0
AreSizes levels entries =
    (n : ℕ) → find (has_rank n) entries ≡ size_in n (level_at levels (level_key_of_number n))
