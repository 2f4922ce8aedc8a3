-- Messages of the feed, in words (TotalView-ITCH 5.0).
use Rattle.std.specs.Prelude.{ℕ, List, [], ◌∷◌, codes}
use Rattle.hx_itch.specs.declared.message.SystemEvent.{SystemEvent}
use Rattle.hx_itch.specs.declared.message.StockDirectory.{StockDirectory}
use Rattle.hx_itch.specs.declared.message.AddOrder.{AddOrder}
use Rattle.hx_itch.specs.declared.message.AddOrderWithAttribution.{AddOrderWithAttribution}
use Rattle.hx_itch.specs.declared.message.OrderExecuted.{OrderExecuted}
use Rattle.hx_itch.specs.declared.message.OrderCancel.{OrderCancel}
use Rattle.hx_itch.specs.declared.message.OrderDelete.{OrderDelete}
use Rattle.hx_itch.specs.declared.message.OrderReplace.{OrderReplace}
use Rattle.hx_itch.specs.declared.message.Trade.{Trade}
use Rattle.hx_itch.specs.declared.message.StockTradingAction.{StockTradingAction}
use Rattle.hx_itch.specs.declared.message.BrokenTrade.{BrokenTrade}
use Rattle.hx_itch.specs.declared.message.Feed.{Feed}
use Rattle.hx_itch.specs.declared.message.Feed.TheVariants as variant
use Rattle.hx_show.specs.declared.label.Label.TheVariants as label
use Rattle.hx_show.specs.declared.part.Part.{Part}
use Rattle.hx_show.specs.declared.part.Part.TheVariants.{Stock, Firm, Reason, Letter, Number, Shares, Price}
use Rattle.hx_show.specs.Parts.{message_words}

abbrev pub system_event_parts : SystemEvent → List Part
system_event_parts m = Letter label.HoursEvent m.event_code ∷ Number label.Locate m.locate ∷ []

-- all fields of a Stock Directory but its tail
abbrev pub stock_directory_parts : StockDirectory → List Part
stock_directory_parts m = Stock m.stock ∷ Number label.Locate m.locate ∷ []

abbrev pub add_order_parts : AddOrder → List Part
add_order_parts m =
    Number label.Reference m.reference ∷ Letter label.Side m.side ∷ Shares m.shares ∷ Stock m.stock
    ∷ Price m.price ∷ Number label.Locate m.locate ∷ []

abbrev pub attributed_parts : AddOrderWithAttribution → List Part
attributed_parts m =
    Number label.Reference m.reference ∷ Letter label.Side m.side ∷ Shares m.shares ∷ Stock m.stock
    ∷ Price m.price ∷ Firm m.attribution ∷ Number label.Locate m.locate ∷ []

abbrev pub order_executed_parts : OrderExecuted → List Part
order_executed_parts m =
    Number label.Reference m.reference ∷ Shares m.shares
    ∷ Number label.MatchNumber m.match_number ∷ Number label.Locate m.locate ∷ []

abbrev pub order_cancel_parts : OrderCancel → List Part
order_cancel_parts m =
    Number label.Reference m.reference ∷ Shares m.shares ∷ Number label.Locate m.locate ∷ []

abbrev pub order_delete_parts : OrderDelete → List Part
order_delete_parts m = Number label.Reference m.reference ∷ Number label.Locate m.locate ∷ []

abbrev pub order_replace_parts : OrderReplace → List Part
order_replace_parts m =
    Number label.OriginalReference m.original_reference ∷ Number label.NewReference m.reference
    ∷ Shares m.shares ∷ Price m.price ∷ Number label.Locate m.locate ∷ []

abbrev pub trade_parts : Trade → List Part
trade_parts m =
    Shares m.shares ∷ Stock m.stock ∷ Price m.price ∷ Number label.MatchNumber m.match_number
    ∷ Number label.Locate m.locate ∷ []

abbrev pub trading_action_parts : StockTradingAction → List Part
trading_action_parts m =
    Stock m.stock ∷ Letter label.TradingState m.trading_state ∷ Reason m.reason
    ∷ Number label.Locate m.locate ∷ []

abbrev pub broken_trade_parts : BrokenTrade → List Part
broken_trade_parts m =
    Number label.MatchNumber m.match_number ∷ Number label.Locate m.locate ∷ []

-- a message, by its name in the standard
abbrev pub feed_message : Feed → List ℕ
feed_message (variant.SystemEvent m) = message_words (codes "System Event") (system_event_parts m)
feed_message (variant.StockDirectory m) =
    message_words (codes "Stock Directory") (stock_directory_parts m)
feed_message (variant.AddOrder m) = message_words (codes "Add Order") (add_order_parts m)
feed_message (variant.AddOrderWithAttribution m) =
    message_words (codes "Add Order with Attribution") (attributed_parts m)
feed_message (variant.OrderExecuted m) =
    message_words (codes "Order Executed") (order_executed_parts m)
feed_message (variant.OrderCancel m) = message_words (codes "Order Cancel") (order_cancel_parts m)
feed_message (variant.OrderDelete m) = message_words (codes "Order Delete") (order_delete_parts m)
feed_message (variant.OrderReplace m) =
    message_words (codes "Order Replace") (order_replace_parts m)
feed_message (variant.Trade m) = message_words (codes "Trade") (trade_parts m)
feed_message (variant.StockTradingAction m) =
    message_words (codes "Stock Trading Action") (trading_action_parts m)
feed_message (variant.BrokenTrade m) = message_words (codes "Broken Trade") (broken_trade_parts m)
