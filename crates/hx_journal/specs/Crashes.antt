-- What a crash may leave of a list of lines or records.
use Rattle.std.specs.Prelude.{◌⊎◌, ℕ, ◌≤◌, List}
use mathlib.Core.List.{IsPrefix}

-- records that begin with all of the one list, and are a beginning of the other
pub record IsBetween (least records most : List (List ℕ)) : Type 0 where
  pub begins : IsPrefix least records
  pub begun : IsPrefix records most

-- Time goes on: a crash since a moment before the call might have left what it might have left
-- before, or what is between these two.
pub record Leaves
    (before now : ℕ) (past since : ℕ → List (List ℕ) → Type 0) (least most : List (List ℕ))
    : Type 0 where
  pub later : before ≤ now
  pub each :
      (t : ℕ) (records : List (List ℕ)) → t ≤ before → since t records
      → past t records ⊎ IsBetween least records most
