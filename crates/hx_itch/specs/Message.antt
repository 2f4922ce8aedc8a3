-- A message of the feed (TotalView-ITCH 5.0): what its bytes say, and how it is written.
-- Every message begins with its type, stock locate, tracking number and timestamp. The tracking number
-- is no field of ours: it is written as 0, and any is read.
use Rattle.std.specs.Prelude.{ℕ, ◌^◌, ◌<◌, ◌≡◌, ◌∷◌, ◌++◌, List, [], Option, Some, None, length, Bool, ◌||◌, if◌then◌else◌}
use Rattle.hx_units.specs.Side.{letter_of}
use Rattle.hx_units.specs.declared.side.Side.TheVariants.{Buy}
use Rattle.hx_itch.specs.Kinds.{system_event, stock_directory, add_order, add_order_with_attribution, order_executed, order_cancel, order_delete, order_replace, trade, stock_trading_action, broken_trade}
use Rattle.hx_units.specs.Letters.{space}
use Rattle.hx_units.specs.Fields.{is_message, byte_at, text_at, number_at, spelled}
use Rattle.hx_itch.specs.declared.message.SystemEvent.{SystemEvent}
use Rattle.hx_itch.specs.declared.message.StockDirectory.{StockDirectory}
use Rattle.hx_itch.specs.declared.message.AddOrder.{AddOrder}
use Rattle.hx_itch.specs.declared.message.AddOrderWithAttribution.{AddOrderWithAttribution}
use Rattle.hx_itch.specs.declared.message.OrderExecuted.{OrderExecuted}
use Rattle.hx_itch.specs.declared.message.OrderCancel.{OrderCancel}
use Rattle.hx_itch.specs.declared.message.OrderDelete.{OrderDelete}
use Rattle.hx_itch.specs.declared.message.OrderReplace.{OrderReplace}
use Rattle.hx_itch.specs.declared.message.Trade.{Trade}
use Rattle.hx_itch.specs.declared.message.StockTradingAction.{StockTradingAction}
use Rattle.hx_itch.specs.declared.message.BrokenTrade.{BrokenTrade}
use Rattle.hx_itch.specs.declared.message.Feed.{Feed}
use Rattle.hx_itch.specs.declared.message.Feed.TheVariants as variant

-- a message: its type, its stock locate, a tracking number of 0, its timestamp, then its other fields
abbrev pub with_head : (type locate time : ℕ) → (fields : List ℕ) → List ℕ
with_head type locate time fields =
    (type ∷ []) ++ spelled 2 locate ++ (0 ∷ 0 ∷ []) ++ spelled 6 time ++ fields

-- ---- System Event, 12 bytes of type S (ITCH 5.0, System Event)

-- whether the bytes are one, by their length and type
abbrev pub is_system_event : List ℕ → Bool
is_system_event bytes = is_message 12 system_event bytes

-- what its bytes say: each field at its offset
abbrev pub system_event_of : List ℕ → SystemEvent
system_event_of bytes = record {
  locate = number_at 1 2 bytes;
  time = number_at 5 6 bytes;
  event_code = byte_at 11 bytes;
}

-- its bytes: field after field
abbrev pub system_event_bytes : SystemEvent → List ℕ
system_event_bytes m = with_head system_event m.locate m.time
    (m.event_code ∷ [])

-- its numbers fit into their bytes, and its names have their lengths
pub record IsSystemEvent (m : SystemEvent) : Type 0 where
  pub locate : m.locate < 2 ^ 16
  pub time : m.time < 2 ^ 48

-- ---- Stock Directory, 39 bytes of type R (ITCH 5.0, Stock Directory)

-- whether the bytes are one, by their length and type
abbrev pub is_stock_directory : List ℕ → Bool
is_stock_directory bytes = is_message 39 stock_directory bytes

-- what its bytes say: each field at its offset
abbrev pub stock_directory_of : List ℕ → StockDirectory
stock_directory_of bytes = record {
  locate = number_at 1 2 bytes;
  time = number_at 5 6 bytes;
  stock = record { 0 = text_at 11 8 bytes };
  tail = text_at 19 20 bytes;
}

-- its bytes: field after field
abbrev pub stock_directory_bytes : StockDirectory → List ℕ
stock_directory_bytes m = with_head stock_directory m.locate m.time
    (m.stock.0 ++ m.tail)

-- its numbers fit into their bytes, and its names have their lengths
pub record IsStockDirectory (m : StockDirectory) : Type 0 where
  pub locate : m.locate < 2 ^ 16
  pub time : m.time < 2 ^ 48
  pub stock : length m.stock.0 ≡ 8
  pub tail : length m.tail ≡ 20

-- ---- Add Order - No MPID Attribution, 36 bytes of type A (ITCH 5.0, Add Order - No MPID Attribution)

-- whether the bytes are one, by their length and type
abbrev pub is_add_order : List ℕ → Bool
is_add_order bytes = is_message 36 add_order bytes

-- what its bytes say: each field at its offset
abbrev pub add_order_of : List ℕ → AddOrder
add_order_of bytes = record {
  locate = number_at 1 2 bytes;
  time = number_at 5 6 bytes;
  reference = number_at 11 8 bytes;
  side = byte_at 19 bytes;
  shares = number_at 20 4 bytes;
  stock = record { 0 = text_at 24 8 bytes };
  price = number_at 32 4 bytes;
}

-- its bytes: field after field
abbrev pub add_order_bytes : AddOrder → List ℕ
add_order_bytes m = with_head add_order m.locate m.time
    (spelled 8 m.reference ++ (m.side ∷ []) ++ spelled 4 m.shares ++ m.stock.0 ++ spelled 4 m.price)

-- its numbers fit into their bytes, and its names have their lengths
pub record IsAddOrder (m : AddOrder) : Type 0 where
  pub locate : m.locate < 2 ^ 16
  pub time : m.time < 2 ^ 48
  pub reference : m.reference < 2 ^ 64
  pub shares : m.shares < 2 ^ 32
  pub stock : length m.stock.0 ≡ 8
  pub price : m.price < 2 ^ 32

-- ---- Add Order with MPID Attribution, 40 bytes of type F (ITCH 5.0, Add Order with MPID Attribution)

-- whether the bytes are one, by their length and type
abbrev pub is_add_order_with_attribution : List ℕ → Bool
is_add_order_with_attribution bytes = is_message 40 add_order_with_attribution bytes

-- what its bytes say: each field at its offset
abbrev pub add_order_with_attribution_of : List ℕ → AddOrderWithAttribution
add_order_with_attribution_of bytes = record {
  locate = number_at 1 2 bytes;
  time = number_at 5 6 bytes;
  reference = number_at 11 8 bytes;
  side = byte_at 19 bytes;
  shares = number_at 20 4 bytes;
  stock = record { 0 = text_at 24 8 bytes };
  price = number_at 32 4 bytes;
  attribution = record { 0 = text_at 36 4 bytes };
}

-- its bytes: field after field
abbrev pub add_order_with_attribution_bytes : AddOrderWithAttribution → List ℕ
add_order_with_attribution_bytes m = with_head add_order_with_attribution m.locate m.time
    (spelled 8 m.reference ++ (m.side ∷ []) ++ spelled 4 m.shares ++ m.stock.0
    ++ spelled 4 m.price ++ m.attribution.0)

-- its numbers fit into their bytes, and its names have their lengths
pub record IsAddOrderWithAttribution (m : AddOrderWithAttribution) : Type 0 where
  pub locate : m.locate < 2 ^ 16
  pub time : m.time < 2 ^ 48
  pub reference : m.reference < 2 ^ 64
  pub shares : m.shares < 2 ^ 32
  pub stock : length m.stock.0 ≡ 8
  pub price : m.price < 2 ^ 32
  pub attribution : length m.attribution.0 ≡ 4

-- ---- Order Executed, 31 bytes of type E (ITCH 5.0, Order Executed)

-- whether the bytes are one, by their length and type
abbrev pub is_order_executed : List ℕ → Bool
is_order_executed bytes = is_message 31 order_executed bytes

-- what its bytes say: each field at its offset
abbrev pub order_executed_of : List ℕ → OrderExecuted
order_executed_of bytes = record {
  locate = number_at 1 2 bytes;
  time = number_at 5 6 bytes;
  reference = number_at 11 8 bytes;
  shares = number_at 19 4 bytes;
  match_number = number_at 23 8 bytes;
}

-- its bytes: field after field
abbrev pub order_executed_bytes : OrderExecuted → List ℕ
order_executed_bytes m = with_head order_executed m.locate m.time
    (spelled 8 m.reference ++ spelled 4 m.shares ++ spelled 8 m.match_number)

-- its numbers fit into their bytes, and its names have their lengths
pub record IsOrderExecuted (m : OrderExecuted) : Type 0 where
  pub locate : m.locate < 2 ^ 16
  pub time : m.time < 2 ^ 48
  pub reference : m.reference < 2 ^ 64
  pub shares : m.shares < 2 ^ 32
  pub match_number : m.match_number < 2 ^ 64

-- ---- Order Cancel, 23 bytes of type X (ITCH 5.0, Order Cancel)

-- whether the bytes are one, by their length and type
abbrev pub is_order_cancel : List ℕ → Bool
is_order_cancel bytes = is_message 23 order_cancel bytes

-- what its bytes say: each field at its offset
abbrev pub order_cancel_of : List ℕ → OrderCancel
order_cancel_of bytes = record {
  locate = number_at 1 2 bytes;
  time = number_at 5 6 bytes;
  reference = number_at 11 8 bytes;
  shares = number_at 19 4 bytes;
}

-- its bytes: field after field
abbrev pub order_cancel_bytes : OrderCancel → List ℕ
order_cancel_bytes m = with_head order_cancel m.locate m.time
    (spelled 8 m.reference ++ spelled 4 m.shares)

-- its numbers fit into their bytes, and its names have their lengths
pub record IsOrderCancel (m : OrderCancel) : Type 0 where
  pub locate : m.locate < 2 ^ 16
  pub time : m.time < 2 ^ 48
  pub reference : m.reference < 2 ^ 64
  pub shares : m.shares < 2 ^ 32

-- ---- Order Delete, 19 bytes of type D (ITCH 5.0, Order Delete)

-- whether the bytes are one, by their length and type
abbrev pub is_order_delete : List ℕ → Bool
is_order_delete bytes = is_message 19 order_delete bytes

-- what its bytes say: each field at its offset
abbrev pub order_delete_of : List ℕ → OrderDelete
order_delete_of bytes = record {
  locate = number_at 1 2 bytes;
  time = number_at 5 6 bytes;
  reference = number_at 11 8 bytes;
}

-- its bytes: field after field
abbrev pub order_delete_bytes : OrderDelete → List ℕ
order_delete_bytes m = with_head order_delete m.locate m.time
    (spelled 8 m.reference)

-- its numbers fit into their bytes, and its names have their lengths
pub record IsOrderDelete (m : OrderDelete) : Type 0 where
  pub locate : m.locate < 2 ^ 16
  pub time : m.time < 2 ^ 48
  pub reference : m.reference < 2 ^ 64

-- ---- Order Replace, 35 bytes of type U (ITCH 5.0, Order Replace)

-- whether the bytes are one, by their length and type
abbrev pub is_order_replace : List ℕ → Bool
is_order_replace bytes = is_message 35 order_replace bytes

-- what its bytes say: each field at its offset
abbrev pub order_replace_of : List ℕ → OrderReplace
order_replace_of bytes = record {
  locate = number_at 1 2 bytes;
  time = number_at 5 6 bytes;
  original_reference = number_at 11 8 bytes;
  reference = number_at 19 8 bytes;
  shares = number_at 27 4 bytes;
  price = number_at 31 4 bytes;
}

-- its bytes: field after field
abbrev pub order_replace_bytes : OrderReplace → List ℕ
order_replace_bytes m = with_head order_replace m.locate m.time
    (spelled 8 m.original_reference ++ spelled 8 m.reference
    ++ spelled 4 m.shares ++ spelled 4 m.price)

-- its numbers fit into their bytes, and its names have their lengths
pub record IsOrderReplace (m : OrderReplace) : Type 0 where
  pub locate : m.locate < 2 ^ 16
  pub time : m.time < 2 ^ 48
  pub original_reference : m.original_reference < 2 ^ 64
  pub reference : m.reference < 2 ^ 64
  pub shares : m.shares < 2 ^ 32
  pub price : m.price < 2 ^ 32

-- ---- Trade Message (Non-Cross), 44 bytes of type P (ITCH 5.0, Trade Message (Non-Cross))

-- whether the bytes are one, by their length and type
abbrev pub is_trade : List ℕ → Bool
is_trade bytes = is_message 44 trade bytes

-- what its bytes say: each field at its offset
abbrev pub trade_of : List ℕ → Trade
trade_of bytes = record {
  locate = number_at 1 2 bytes;
  time = number_at 5 6 bytes;
  shares = number_at 20 4 bytes;
  stock = record { 0 = text_at 24 8 bytes };
  price = number_at 32 4 bytes;
  match_number = number_at 36 8 bytes;
}

-- its bytes: field after field; the order that was not displayed does not show its reference and its side, which are
-- written as 0 and `B` (ITCH 5.0, Trade Message: Order Reference Number, Buy/Sell Indicator)
abbrev pub trade_bytes : Trade → List ℕ
trade_bytes m = with_head trade m.locate m.time
    ((0 ∷ 0 ∷ 0 ∷ 0 ∷ 0 ∷ 0 ∷ 0 ∷ 0 ∷ []) ++ (letter_of Buy ∷ []) ++ spelled 4 m.shares
    ++ m.stock.0 ++ spelled 4 m.price ++ spelled 8 m.match_number)

-- its numbers fit into their bytes, and its names have their lengths
pub record IsTrade (m : Trade) : Type 0 where
  pub locate : m.locate < 2 ^ 16
  pub time : m.time < 2 ^ 48
  pub shares : m.shares < 2 ^ 32
  pub stock : length m.stock.0 ≡ 8
  pub price : m.price < 2 ^ 32
  pub match_number : m.match_number < 2 ^ 64

-- ---- Stock Trading Action, 25 bytes of type H (ITCH 5.0, Stock Trading Action)

-- whether the bytes are one, by their length and type
abbrev pub is_stock_trading_action : List ℕ → Bool
is_stock_trading_action bytes = is_message 25 stock_trading_action bytes

-- what its bytes say: each field at its offset
abbrev pub stock_trading_action_of : List ℕ → StockTradingAction
stock_trading_action_of bytes = record {
  locate = number_at 1 2 bytes;
  time = number_at 5 6 bytes;
  stock = record { 0 = text_at 11 8 bytes };
  trading_state = byte_at 19 bytes;
  reason = text_at 21 4 bytes;
}

-- what is written in the byte that the standard reserves: a space (Reserved)
abbrev pub reserved : ℕ
reserved = space

-- its bytes: field after field
abbrev pub stock_trading_action_bytes : StockTradingAction → List ℕ
stock_trading_action_bytes m = with_head stock_trading_action m.locate m.time
    (m.stock.0 ++ (m.trading_state ∷ []) ++ (reserved ∷ []) ++ m.reason)

-- its numbers fit into their bytes, and its names have their lengths
pub record IsStockTradingAction (m : StockTradingAction) : Type 0 where
  pub locate : m.locate < 2 ^ 16
  pub time : m.time < 2 ^ 48
  pub stock : length m.stock.0 ≡ 8
  pub reason : length m.reason ≡ 4

-- ---- Broken Trade, 19 bytes of type B (ITCH 5.0, Broken Trade / Order Execution)

-- whether the bytes are one, by their length and type
abbrev pub is_broken_trade : List ℕ → Bool
is_broken_trade bytes = is_message 19 broken_trade bytes

-- what its bytes say: each field at its offset
abbrev pub broken_trade_of : List ℕ → BrokenTrade
broken_trade_of bytes = record {
  locate = number_at 1 2 bytes;
  time = number_at 5 6 bytes;
  match_number = number_at 11 8 bytes;
}

-- its bytes: field after field
abbrev pub broken_trade_bytes : BrokenTrade → List ℕ
broken_trade_bytes m = with_head broken_trade m.locate m.time (spelled 8 m.match_number)

-- its numbers fit into their bytes, and its names have their lengths
pub record IsBrokenTrade (m : BrokenTrade) : Type 0 where
  pub locate : m.locate < 2 ^ 16
  pub time : m.time < 2 ^ 48
  pub match_number : m.match_number < 2 ^ 64

-- ---- any message

-- what the bytes say
abbrev pub feed_message_of : List ℕ → Option Feed
feed_message_of bytes =
    if is_system_event bytes then Some (variant.SystemEvent (system_event_of bytes))
    else if is_stock_directory bytes then Some (variant.StockDirectory (stock_directory_of bytes))
    else if is_add_order bytes then Some (variant.AddOrder (add_order_of bytes))
    else if is_add_order_with_attribution bytes
    then Some (variant.AddOrderWithAttribution (add_order_with_attribution_of bytes))
    else if is_order_executed bytes then Some (variant.OrderExecuted (order_executed_of bytes))
    else if is_order_cancel bytes then Some (variant.OrderCancel (order_cancel_of bytes))
    else if is_order_delete bytes then Some (variant.OrderDelete (order_delete_of bytes))
    else if is_order_replace bytes then Some (variant.OrderReplace (order_replace_of bytes))
    else if is_trade bytes then Some (variant.Trade (trade_of bytes))
    else if is_stock_trading_action bytes
    then Some (variant.StockTradingAction (stock_trading_action_of bytes))
    else if is_broken_trade bytes then Some (variant.BrokenTrade (broken_trade_of bytes))
    else None

-- whether they are a message at all, by their length and type
abbrev pub is_feed_message : List ℕ → Bool
is_feed_message bytes = is_system_event bytes || is_stock_directory bytes || is_add_order bytes
    || is_add_order_with_attribution bytes || is_order_executed bytes || is_order_cancel bytes
    || is_order_delete bytes || is_order_replace bytes || is_trade bytes
    || is_stock_trading_action bytes || is_broken_trade bytes

-- the spelling that is written
abbrev pub feed_bytes : Feed → List ℕ
feed_bytes (variant.SystemEvent m) = system_event_bytes m
feed_bytes (variant.StockDirectory m) = stock_directory_bytes m
feed_bytes (variant.AddOrder m) = add_order_bytes m
feed_bytes (variant.AddOrderWithAttribution m) = add_order_with_attribution_bytes m
feed_bytes (variant.OrderExecuted m) = order_executed_bytes m
feed_bytes (variant.OrderCancel m) = order_cancel_bytes m
feed_bytes (variant.OrderDelete m) = order_delete_bytes m
feed_bytes (variant.OrderReplace m) = order_replace_bytes m
feed_bytes (variant.Trade m) = trade_bytes m
feed_bytes (variant.StockTradingAction m) = stock_trading_action_bytes m
feed_bytes (variant.BrokenTrade m) = broken_trade_bytes m

-- each number fits into its bytes, and each name has its length
abbrev pub IsFeed : Feed → Type 0
IsFeed (variant.SystemEvent m) = IsSystemEvent m
IsFeed (variant.StockDirectory m) = IsStockDirectory m
IsFeed (variant.AddOrder m) = IsAddOrder m
IsFeed (variant.AddOrderWithAttribution m) = IsAddOrderWithAttribution m
IsFeed (variant.OrderExecuted m) = IsOrderExecuted m
IsFeed (variant.OrderCancel m) = IsOrderCancel m
IsFeed (variant.OrderDelete m) = IsOrderDelete m
IsFeed (variant.OrderReplace m) = IsOrderReplace m
IsFeed (variant.Trade m) = IsTrade m
IsFeed (variant.StockTradingAction m) = IsStockTradingAction m
IsFeed (variant.BrokenTrade m) = IsBrokenTrade m

-- nanoseconds since midnight
abbrev pub feed_time : Feed → ℕ
feed_time (variant.SystemEvent m) = m.time
feed_time (variant.StockDirectory m) = m.time
feed_time (variant.AddOrder m) = m.time
feed_time (variant.AddOrderWithAttribution m) = m.time
feed_time (variant.OrderExecuted m) = m.time
feed_time (variant.OrderCancel m) = m.time
feed_time (variant.OrderDelete m) = m.time
feed_time (variant.OrderReplace m) = m.time
feed_time (variant.Trade m) = m.time
feed_time (variant.StockTradingAction m) = m.time
feed_time (variant.BrokenTrade m) = m.time
