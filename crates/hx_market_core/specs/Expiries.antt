-- When live orders end: each that ends at a time is entered under the index of its token.
use Rattle.std.specs.Prelude.{◌≡◌, ℕ, ◌+◌, ◌≤◌, ◌==◌, List, [], ◌∷◌, ◌++◌, Option, Some, None}
use Rattle.std.specs.List.{AllByRecursion, find}
use Rattle.hx_book.specs.declared.order.Live.{Live}
use Rattle.hx_day.specs.declared.expiries.entry.Entry.{Entry}
use Rattle.hx_day.specs.Expiries.{Holds}
use Rattle.hx_members.specs.Chains.{Used, index_of}
use Rattle.hx_rules.specs.Orders.{Order, expiry_of, life_of}
use Rattle.hx_market_core.specs.declared.effect.Due.{Due}
use Rattle.hx_market_core.specs.declared.effect.Due.TheVariants.{Over, ByCode}
use Rattle.hx_market_core.specs.declared.effect.Effect.{Effect}
use Rattle.hx_market_core.specs.declared.effect.Effect.TheVariants.{Nothing, Reject, Accept, Fail, Replace, Cancel, End, Halt, Break}

-- the index of an order's token among the used ones
abbrev pub order_index : List Used → Order → ℕ
order_index tokens x = index_of tokens x.member x.token

-- the live order whose token is at an index
abbrev pub order_at : List Used → (index : ℕ) → List Live → Option Live
order_at tokens index orders = find (λ live. order_index tokens live.order == index) orders

-- an order or none, as a list
abbrev pub one_or_none : Option Live → List Live
one_or_none None = []
one_or_none (Some live) = live ∷ []

-- the live orders whose tokens are at these indices
abbrev pub orders_at : List Used → (indices : List ℕ) → List Live → List Live
orders_at tokens [] orders = []
orders_at tokens (index ∷ indices) orders =
    one_or_none (order_at tokens index orders) ++ orders_at tokens indices orders

-- an order that ends at a time is entered, under the index of its token
abbrev pub IsEntered : List Entry → List Used → Order → Type 0
IsEntered entries tokens x =
    (expiry : ℕ) → expiry_of x.life ≡ Some expiry → Holds entries expiry (order_index tokens x)

-- the orders' tokens were used one after the other, none before this index
abbrev pub AreInOrder : List Used → (from : ℕ) → List Order → Type 0
AreInOrder tokens from [] = Unit {0}
AreInOrder tokens from (x ∷ xs) =
    (from ≤ order_index tokens x) × AreInOrder tokens (order_index tokens x + 1) xs

-- the live orders that end at a time are entered, and all stand as their tokens were used
pub record AreEntered (entries : List Entry) (tokens : List Used) (xs : List Order) : Type 0 where
  pub each : AllByRecursion (IsEntered entries tokens) xs
  pub in_order : AreInOrder tokens 0 xs

-- when the order of an effect ends, if that is a time: an immediate one has none
abbrev pub end_of : Effect → Option ℕ
end_of Nothing = None
end_of (Reject r) = None
end_of (Accept a) = expiry_of (life_of a.time a.enter.time_in_force)
end_of (Fail a) = None
end_of (Replace a) = expiry_of (life_of a.time a.replace.time_in_force)
end_of (Cancel a) = None
end_of (End e) = None
end_of (Halt h) = None
end_of (Break b) = None

-- the order of an effect is entered under the index that its token gets
abbrev pub IsEndEntered : List Entry → (index : ℕ) → Effect → Type 0
IsEndEntered entries index effect =
    (expiry : ℕ) → end_of effect ≡ Some expiry → Holds entries expiry index

-- until when orders end that are over, if it is those that end
abbrev pub until_of : Due → (time : ℕ) → Option ℕ
until_of Over time = Some time
until_of (ByCode code) time = None

-- until when an effect ends all orders that are over, if it is a tick's
abbrev pub over_until : Effect → Option ℕ
over_until Nothing = None
over_until (Reject r) = None
over_until (Accept a) = None
over_until (Fail a) = None
over_until (Replace a) = None
over_until (Cancel a) = None
over_until (End e) = until_of e.due e.time
over_until (Halt h) = None
over_until (Break b) = None
