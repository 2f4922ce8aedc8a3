-- The state of a market's day.
use Rattle.std.specs.Prelude.{ℕ, ◌<◌, Bool, List, slice_index}
use Rattle.hx_units.specs.Limits.{member_numbers}
use Rattle.hx_rules.specs.Limits.{operator_limit}
use Rattle.hx_rules.specs.declared.matches.Match.{Match}

-- an event of this number may be recorded
pub record MayRecord (recorded : List ℕ) (number : ℕ) : Type 0 where
  pub in_range : number < member_numbers
  pub limit : slice_index recorded number < operator_limit

-- which stocks are halted, and the executions; and for how many more of these there is room
pub record TradingState : Type 0 where
  pub halted : List Bool
  pub executions : List Match
  pub room : ℕ
