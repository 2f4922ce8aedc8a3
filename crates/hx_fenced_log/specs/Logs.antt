-- The records that stand in a log.
use Rattle.std.specs.Prelude.{◌≡◌, ℕ, ◌+◌, List, [], ◌∷◌, ◌++◌, length}
use mathlib.Core.List.{IsPrefix}
use Rattle.hx_fenced_log.specs.Records.{Record}

-- records have the numbers from this one on
abbrev pub AreNumbered : (from : ℕ) → List Record → Type 0
AreNumbered from [] = Unit {0}
AreNumbered from (r ∷ rs) = (r.head.number ≡ from) × AreNumbered (from + 1) rs

-- a record stands in a log at its number: the records before it have the numbers before its own
pub record Stands (log : List Record) (r : Record) : Type 0 where
  pub front : List Record
  pub is : IsPrefix (front ++ r ∷ []) log
  pub numbered : r.head.number ≡ length front + 1
