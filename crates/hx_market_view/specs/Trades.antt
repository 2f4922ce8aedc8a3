-- Executions, as the feed reports them.
use Rattle.std.specs.Prelude.{ℕ, false, List, Option, Some, None, option_map}
use Rattle.hx_itch.specs.declared.message.Feed.{Feed}
use Rattle.hx_itch.specs.declared.message.Feed.TheVariants.{SystemEvent, StockDirectory, AddOrder, AddOrderWithAttribution, OrderExecuted, OrderCancel, OrderDelete, OrderReplace, Trade, StockTradingAction, BrokenTrade}
use Rattle.hx_itch.specs.declared.message.OrderExecuted.{OrderExecuted as Executed}
use Rattle.hx_itch.specs.declared.shown_order.ShownOrder.{ShownOrder}
use Rattle.hx_reader.specs.Faults.{order_of}
use Rattle.hx_market_view.specs.declared.trade.Trade.{Trade as Execution}

-- the execution of a shown order, at this price
abbrev pub executed_at : Executed → (price : ℕ) → Execution
executed_at e price =
    record {
      match_number = e.match_number;
      time = e.time;
      price = price;
      shares = e.shares;
      is_broken = false;
    }

-- the execution that a message reports, given the book before it: at the order's price (ITCH 5.0, Order Executed
-- Message), or at the message's own (Trade Message)
abbrev pub trade_of : Feed → List ShownOrder → Option Execution
trade_of (OrderExecuted e) book =
    option_map (λ x. executed_at e x.price) (order_of e.reference book)
trade_of (Trade t) book =
    Some
    (record {
      match_number = t.match_number;
      time = t.time;
      price = t.price;
      shares = t.shares;
      is_broken = false;
    })
trade_of (SystemEvent m) book = None
trade_of (StockDirectory m) book = None
trade_of (AddOrder m) book = None
trade_of (AddOrderWithAttribution m) book = None
trade_of (OrderCancel m) book = None
trade_of (OrderDelete m) book = None
trade_of (OrderReplace m) book = None
trade_of (StockTradingAction m) book = None
trade_of (BrokenTrade m) book = None
