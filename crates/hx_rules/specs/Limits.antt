-- The limits of an order's fields, by name, that hx_units does not have.
use Rattle.std.specs.Prelude.{ℕ}

-- ---- Price, in units of 1/10,000 dollar (OUCH 4.2, Data Types)

abbrev pub dollar : ℕ
dollar = 10000

abbrev pub cent : ℕ
cent = 100

-- ---- Time in force (OUCH 4.2, Enter Order: Time in Force)

-- immediate or cancel
abbrev pub immediate : ℕ
immediate = 0

-- the most seconds that an order can ask for: a day
abbrev pub most_seconds : ℕ
most_seconds = 86400

-- for the market hours
abbrev pub market_hours : ℕ
market_hours = 99998

-- a second, in nanoseconds
abbrev pub second : ℕ
second = 1000000000

-- ---- The operator

-- how many events of the operator a day records
abbrev pub operator_limit : ℕ
operator_limit = 4294967295
