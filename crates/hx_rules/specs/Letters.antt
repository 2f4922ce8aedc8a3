-- The letters of the fields, by name (OUCH 4.2 and TotalView-ITCH 5.0). Those of the sides stand
-- with the sides.
use Rattle.std.specs.Prelude.{ℕ}
use Rattle.hx_units.specs.Letters.{letter, space}

-- ---- Display (OUCH 4.2, Enter Order: Display)

-- attributable: shown with its firm
abbrev pub attributable : ℕ
attributable = letter "A"

-- anonymous: shown without its firm
abbrev pub anonymous : ℕ
anonymous = letter "Y"

-- not displayed
abbrev pub non_display : ℕ
non_display = letter "N"

-- ---- Other fields of an order

-- no cross: the continuous market (OUCH 4.2, Enter Order: Cross Type)
abbrev pub no_cross : ℕ
no_cross = letter "N"

-- a live order (OUCH 4.2, Accepted: Order State)
abbrev pub order_live : ℕ
order_live = letter "L"

-- no weight is given (OUCH 4.2, Accepted: BBO Weight Indicator)
abbrev pub no_weight : ℕ
no_weight = space

-- ---- Liquidity flags (OUCH 4.2, Executed Order: Liquidity Flag)

-- added: the resting order was displayed
abbrev pub added : ℕ
added = letter "A"

-- removed: the order came in and took what rested
abbrev pub removed : ℕ
removed = letter "R"

-- added, and the resting order was not displayed
abbrev pub added_hidden : ℕ
added_hidden = letter "J"

-- ---- Reasons to cancel (OUCH 4.2, Canceled Order: Reason)

-- the user asked for it, by a Cancel or a Replace
abbrev pub by_user : ℕ
by_user = letter "U"

-- immediate or cancel: what was not executed at once
abbrev pub immediate_or_cancel : ℕ
immediate_or_cancel = letter "I"

-- timeout: the time in force is over
abbrev pub timeout : ℕ
timeout = letter "T"

-- ---- Reasons to reject (OUCH 4.2, Rejected Order: Reason)

-- the market is closed to such an order
abbrev pub closed : ℕ
closed = letter "C"

-- no such stock
abbrev pub invalid_stock : ℕ
invalid_stock = letter "S"

-- the stock is halted
abbrev pub stock_halted : ℕ
stock_halted = letter "H"

-- any other reason: side and cross type here
abbrev pub other_reason : ℕ
other_reason = letter "O"

-- no such display
abbrev pub invalid_display : ℕ
invalid_display = letter "D"

-- shares out of range
abbrev pub invalid_shares : ℕ
invalid_shares = letter "Z"

-- no price of an order
abbrev pub invalid_price : ℕ
invalid_price = letter "X"

-- a minimum quantity that the order cannot have
abbrev pub invalid_minimum : ℕ
invalid_minimum = letter "N"

-- ---- Trading states (ITCH 5.0, Stock Trading Action: Trading State)

-- halted
abbrev pub halted_state : ℕ
halted_state = letter "H"

-- trading
abbrev pub trading_state : ℕ
trading_state = letter "T"

-- ---- Reasons to break a trade (OUCH 4.2, Broken Trade: Reason)

-- supervisory: the exchange breaks it
abbrev pub supervisory : ℕ
supervisory = letter "S"

-- ---- Event codes of the hours (ITCH 5.0, System Event Message; OUCH 4.2, System Event)

abbrev pub start_of_messages : ℕ
start_of_messages = letter "O"

abbrev pub start_of_system_hours : ℕ
start_of_system_hours = letter "S"

abbrev pub start_of_market_hours : ℕ
start_of_market_hours = letter "Q"

abbrev pub end_of_market_hours : ℕ
end_of_market_hours = letter "M"

abbrev pub end_of_system_hours : ℕ
end_of_system_hours = letter "E"

abbrev pub end_of_messages : ℕ
end_of_messages = letter "C"

-- ---- The operator's own letters

-- time passes: seconds that are over end their orders
abbrev pub tick_letter : ℕ
tick_letter = letter "K"

-- a stock is halted, or trades again
abbrev pub halt_letter : ℕ
halt_letter = letter "H"

-- an execution is broken
abbrev pub break_letter : ℕ
break_letter = letter "B"
