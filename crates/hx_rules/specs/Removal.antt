-- How an order leaves the live ones, or loses shares, other than by an execution.
use Rattle.std.specs.Prelude.{ℕ, if◌then◌else◌, not, nat_lt, List, [], ◌∷◌, ◌++◌}
use Rattle.std.specs.List.{filter}
use Rattle.hx_match.specs.Matching.{less_of, itself, with_shares}
use Rattle.hx_itch.specs.declared.message.Feed.{Feed}
use Rattle.hx_itch.specs.declared.message.Feed.TheVariants.{OrderCancel, OrderDelete}
use Rattle.hx_ouch.specs.declared.outbound.Outbound.TheVariants.{Canceled}
use Rattle.hx_rules.specs.Orders.{Order, Token, is_called}
use Rattle.hx_rules.specs.Outputs.{Reply}

-- the live orders but the one that the member calls by this token
abbrev pub others : (member : ℕ) → Token → List Order → List Order
others member token orders = filter (λ x. not (is_called member token x)) orders

-- the order with `by` open shares less, as a list: none if none are left
abbrev pub less : Order → (by : ℕ) → List Order
less x by = less_of itself with_shares x by

-- the live orders, with `by` shares less of the one that the member calls by this token: it retains its time priority,
-- or is gone
abbrev pub lessened : (member : ℕ) (token : Token) (by : ℕ) → List Order → List Order
lessened member token by [] = []
lessened member token by (x ∷ orders) =
    if is_called member token x then less x by ++ orders else x ∷ lessened member token by orders

-- in the feed: the order is gone, if it was shown (ITCH 5.0, Order Delete Message)
abbrev pub deleted : (time : ℕ) → Order → List Feed
deleted time x =
    if x.shown
    then OrderDelete (record { locate = x.locate; time = time; reference = x.reference }) ∷ []
    else []

-- in the feed: `by` shares are off, if the order is shown (ITCH 5.0, Order Cancel Message)
abbrev pub reduced : (time by : ℕ) → Order → List Feed
reduced time by x =
    if x.shown
    then OrderCancel (record {
      locate = x.locate;
      time = time;
      reference = x.reference;
      shares = by;
    })
    ∷ []
    else []

-- in the feed: `by` shares are off, or the order is gone if they are all
abbrev pub taken_off : (time by : ℕ) → Order → List Feed
taken_off time by x = if nat_lt by x.shares then reduced time by x else deleted time x

-- to the order's member: `shares` shares are off, and why (OUCH 4.2, Canceled Order Message)
abbrev pub canceled : (time member : ℕ) (token : Token) (shares reason : ℕ) → Reply
canceled time member token shares reason = (
  member,
  Canceled (record { time = time; token = token; shares = shares; reason = reason }),
)
