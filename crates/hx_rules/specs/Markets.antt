-- The state of the market.
use Rattle.std.specs.Prelude.{ℕ, Bool, if◌then◌else◌, ◌&&◌, nat_lt, nat_le, suc, false, List, [], length, replicate, slice_index_or}
use Rattle.hx_units.specs.Limits.{member_numbers}
use Rattle.hx_members.specs.Chains.{Used, Chain}
use Rattle.hx_members.specs.Setups.{Setup}
use Rattle.hx_refs.specs.Numbers.{Numbers, opening_numbers}
use Rattle.hx_rules.specs.Orders.{Order}
use Rattle.hx_rules.specs.declared.matches.Match.{Match}

pub record Market : Type 0 where
  -- the live orders, the earlier ones first: time priority is the index in this list
  pub live : List Order
  -- the used tokens, in order of use, and their chains
  pub tokens : List Used
  pub chains : List Chain
  -- the reference and match numbers drawn so far
  pub numbers : Numbers
  -- how many of the hours codes O, S, Q, M, E, C are past (ITCH 5.0, System Event Message)
  pub phase : ℕ
  -- whether each stock is halted, under its locate (ITCH 5.0, Stock Trading Action Message)
  pub halted : List Bool
  -- the executions, in the order of their match numbers 1, 2, ..
  pub executions : List Match
  -- how many events of each member number were recorded; the operator has number 0
  pub recorded : List ℕ

-- a count for each number, all of them 0
abbrev pub no_counts : List ℕ
no_counts = replicate member_numbers 0

-- how many codes are past as the day begins: O and S if it begins open, else none
abbrev pub opening_hours : Setup → ℕ
opening_hours setup = if setup.start_open then 2 else 0

-- no stock is halted: there is an index for each locate, of which 0 is no stock's
abbrev pub none_halted : Setup → List Bool
none_halted setup = replicate (suc (length setup.stocks)) false

-- the market as the day begins
unfoldable pub opening : Setup → Market
opening setup =
    record {
      live = [];
      tokens = [];
      chains = [];
      numbers = opening_numbers;
      phase = opening_hours setup;
      halted = none_halted setup;
      executions = [];
      recorded = no_counts;
    }

-- whether the stock of this locate is halted
abbrev pub is_halted : (halted : List Bool) (locate : ℕ) → Bool
is_halted halted locate = slice_index_or halted locate false

-- whether orders are accepted: from code S, the second, to code E, the fifth
abbrev pub is_open : (phase : ℕ) → Bool
is_open phase = nat_le 2 phase && nat_lt phase 5

-- whether the market hours are over: code M, the fourth, is past
abbrev pub is_after_market : (phase : ℕ) → Bool
is_after_market phase = nat_le 4 phase
