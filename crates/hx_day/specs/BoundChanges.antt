-- What changes a market, as far as its bounds depend on it.
use Rattle.std.specs.Prelude.{◌≡◌, ℕ, ◌+◌, ◌≤◌, true, false, length, Some}
use Rattle.std.specs.List.{find}
use Rattle.hx_units.specs.Limits.{most_shares}
use Rattle.hx_units.specs.declared.names.Token.{Token}
use Rattle.hx_book.specs.declared.order.Order.{Order}
use Rattle.hx_members.specs.Chains.{is_used, entered_of, executed_by}
use Rattle.hx_refs.specs.Numbers.{raised}
use Rattle.hx_rules.specs.Orders.{is_called}
use Rattle.hx_rules.specs.Markets.{Market}

-- an event is recorded under this number
abbrev pub recording : Market → ℕ → Market
recording m i = record m { recorded = raised m.recorded i }

-- the order's token is new, and its chain has the next index
pub record IsEntered (m : Market) (x : Order) : Type 0 where
  pub unused : is_used m.tokens x.member x.token ≡ false
  pub chain : x.chain ≡ length m.tokens
  pub shares : x.shares ≤ most_shares

-- the member calls this live order by this token
pub record Names (m : Market) (i : ℕ) (t : Token) (old : Order) : Type 0 where
  pub found : find (is_called i t) m.live ≡ Some old
  pub called : is_called i t old ≡ true

-- the new order: its token is new, in the chain of the old one, of which with its open shares no more is executed than one message may have
pub record Replaces (m : Market) (i : ℕ) (t : Token) (old x : Order) : Type 0 where
  pub names : Names m i t old
  pub unused : is_used m.tokens i x.token ≡ false
  pub member : x.member ≡ old.member
  pub chain : x.chain ≡ old.chain
  pub shares : executed_by m.chains i (entered_of m.tokens i t) + x.shares ≤ most_shares
