-- The level key: the position of a level in a book.
use Rattle.std.specs.Prelude.{ℕ, ◌+◌, ◌*◌, ◌/◌, ◌%◌, ◌^◌, ◌==◌, Bool, if◌then◌else◌}
use Rattle.std.specs.declared.cmp.Ordering.{Ordering}
use Rattle.std.specs.Ordering.{nat_cmp, then_cmp, on, bool_cmp}

-- the position of a level: its stock, its side, and how far its price is from the best
pub record LevelKey : Type 0 where
  pub locate : ℕ
  pub buy : Bool
  pub distance : ℕ

-- the number of a stock's side: of each stock the sells, then the buys
abbrev pub side_number : LevelKey → ℕ
side_number at = at.locate * 2 + (if at.buy then 1 else 0)

-- a level key in one number: below 2 ^ 32 the distance, above it the number of the stock's side
abbrev pub level_key_number : LevelKey → ℕ
level_key_number at = side_number at * 2 ^ 32 + at.distance

-- the level key of such a number
abbrev pub level_key_of_number : ℕ → LevelKey
level_key_of_number n = record {
  locate = n / 2 ^ 33;
  buy = n / 2 ^ 32 % 2 == 1;
  distance = n % 2 ^ 32;
}

-- the order of levels in memory: by stock, side and distance
abbrev pub level_key_cmp : LevelKey → LevelKey → Ordering
level_key_cmp =
    then_cmp (on (λ r. r.locate) nat_cmp)
    (then_cmp (on (λ r. r.buy) bool_cmp) (on (λ r. r.distance) nat_cmp))
