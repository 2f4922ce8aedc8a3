-- The limits of the market, each with the rule that sets it.
use Rattle.std.specs.Prelude.{ℕ}

-- the greatest price of an order, in units of 1/10,000 dollar (OUCH 4.2, Data Types: Price)
abbrev pub greatest_price : ℕ
greatest_price = 1999999900

-- the most shares of an order: less than 1,000,000 (OUCH 4.2, Enter Order: Shares)
abbrev pub most_shares : ℕ
most_shares = 999999

-- a day in nanoseconds: a time of the day is below it (OUCH 4.2 and ITCH 5.0: Timestamp)
abbrev pub day : ℕ
day = 86400000000000

-- the greatest number of a member; the least is 1, and the operator has 0
abbrev pub greatest_member : ℕ
greatest_member = 4095

-- how many numbers members and the operator have: 0 to the greatest
abbrev pub member_numbers : ℕ
member_numbers = 4096

-- the nanoseconds without a packet after which a heartbeat is due: a second (MoldUDP64 1.00, Heartbeats;
-- SoupBinTCP 3.00, Heartbeats)
abbrev pub silence : ℕ
silence = 1000000000
