-- The types of the feed's messages, as letters (ITCH 5.0: Message Type of each message).
use Rattle.std.specs.Prelude.{ℕ}
use Rattle.hx_units.specs.Letters.{letter}

-- System Event: `S`
abbrev pub system_event : ℕ
system_event = letter "S"

-- Stock Directory: `R`
abbrev pub stock_directory : ℕ
stock_directory = letter "R"

-- Add Order - No MPID Attribution: `A`
abbrev pub add_order : ℕ
add_order = letter "A"

-- Add Order with MPID Attribution: `F`
abbrev pub add_order_with_attribution : ℕ
add_order_with_attribution = letter "F"

-- Order Executed: `E`
abbrev pub order_executed : ℕ
order_executed = letter "E"

-- Order Cancel: `X`
abbrev pub order_cancel : ℕ
order_cancel = letter "X"

-- Order Delete: `D`
abbrev pub order_delete : ℕ
order_delete = letter "D"

-- Order Replace: `U`
abbrev pub order_replace : ℕ
order_replace = letter "U"

-- Trade Message (Non-Cross): `P`
abbrev pub trade : ℕ
trade = letter "P"

-- Stock Trading Action: `H`
abbrev pub stock_trading_action : ℕ
stock_trading_action = letter "H"

-- Broken Trade: `B`
abbrev pub broken_trade : ℕ
broken_trade = letter "B"
