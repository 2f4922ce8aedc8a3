-- How near to the best price the levels of each stock and side begin.
use Rattle.std.specs.Prelude.{ℕ, ◌≤◌, List, slice_index_or}
use Rattle.std.specs.Option.{IsSome}
use Rattle.hx_levels.specs.LevelKeys.{LevelKey, side_number}
use Rattle.hx_levels.specs.Levels.{LevelStore, level_at}

-- beyond each price
abbrev pub no_distance : ℕ
no_distance = 4294967295

-- the distance stored for a stock and side; beyond each price if none is stored
abbrev pub bound_of : (distances : List ℕ) → LevelKey → ℕ
bound_of distances at = slice_index_or distances (side_number at) no_distance

-- no level of a stock and side is better than the distance stored for them
abbrev pub NoneBetter : LevelStore → (distances : List ℕ) → Type 0
NoneBetter levels distances =
    (at : LevelKey) → IsSome (level_at levels at) → bound_of distances at ≤ at.distance
