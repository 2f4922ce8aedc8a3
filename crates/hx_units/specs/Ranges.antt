-- The range of each unit.
use Rattle.std.specs.Prelude.{ℕ, ◌<◌, ◌≤◌}
use Rattle.hx_units.specs.Limits.{greatest_price, most_shares, day, greatest_member}

-- a price in units of 1/10,000 dollar: no order has price 0 (OUCH 4.2, Data Types: Price)
abbrev pub IsPrice : ℕ → Type 0
IsPrice n = (0 < n) × (n ≤ greatest_price)

-- a number of shares of an order (OUCH 4.2, Enter Order: Shares)
abbrev pub IsShares : ℕ → Type 0
IsShares n = (0 < n) × (n ≤ most_shares)

-- nanoseconds since midnight (OUCH 4.2 and ITCH 5.0: Timestamp)
abbrev pub IsNanos : ℕ → Type 0
IsNanos n = n < day

-- a member's number; the operator, whose number is 0, is no member
abbrev pub IsMember : ℕ → Type 0
IsMember n = (0 < n) × (n ≤ greatest_member)
