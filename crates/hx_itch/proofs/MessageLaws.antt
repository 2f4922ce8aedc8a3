-- What is spelled so is read.
use Rattle.std.proofs.Common.{◌≡◌, ℕ, ◌^◌, ◌<◌, List, length, Some, None, refl, sym, ◌∙◌, arith}
use Rattle.std.specs.Prelude.{◌↔◌, IfSome, IsSome, IsTrue, is_some}
use Rattle.hx_units.specs.Fields.{is_message, number_at, spelled, AreBytes}
use Rattle.hx_units.proofs.FieldLaws.{cells, by_cells, first_message, number_2, number_4, number_6, number_8}
use Rattle.hx_units.proofs.Options.{is_some-next, is_some-last, is_some-first}
use Rattle.hx_itch.specs.declared.message.SystemEvent.{SystemEvent}
use Rattle.hx_itch.specs.declared.message.StockDirectory.{StockDirectory}
use Rattle.hx_itch.specs.declared.message.AddOrder.{AddOrder}
use Rattle.hx_itch.specs.declared.message.AddOrderWithAttribution.{AddOrderWithAttribution}
use Rattle.hx_itch.specs.declared.message.OrderExecuted.{OrderExecuted}
use Rattle.hx_itch.specs.declared.message.OrderCancel.{OrderCancel}
use Rattle.hx_itch.specs.declared.message.OrderDelete.{OrderDelete}
use Rattle.hx_itch.specs.declared.message.OrderReplace.{OrderReplace}
use Rattle.hx_itch.specs.declared.message.Trade.{Trade}
use Rattle.hx_itch.specs.declared.message.StockTradingAction.{StockTradingAction}
use Rattle.hx_itch.specs.declared.message.BrokenTrade.{BrokenTrade}
use Rattle.hx_itch.specs.declared.message.Feed.{Feed}
use Rattle.hx_itch.specs.declared.message.Feed.TheVariants as variant
use Rattle.hx_itch.specs.Message.{system_event_bytes, stock_directory_bytes, add_order_bytes, add_order_with_attribution_bytes, order_executed_bytes, order_cancel_bytes, order_delete_bytes, order_replace_bytes, trade_bytes, stock_trading_action_bytes, broken_trade_bytes, system_event_of, stock_directory_of, add_order_of, add_order_with_attribution_of, order_executed_of, order_cancel_of, order_delete_of, order_replace_of, trade_of, stock_trading_action_of, broken_trade_of, IsSystemEvent, IsStockDirectory, IsAddOrder, IsAddOrderWithAttribution, IsOrderExecuted, IsOrderCancel, IsOrderDelete, IsOrderReplace, IsTrade, IsStockTradingAction, IsBrokenTrade, feed_message_of, feed_bytes, IsFeed, is_feed_message, feed_time}

-- ---- System Event

system_event_again : (m : SystemEvent) → IsSystemEvent m → feed_message_of (system_event_bytes m) ≡ Some (variant.SystemEvent m)
unfolding spelled
system_event_again m fits =
    rw (number_2 m.locate fits.locate, number_6 m.time fits.time) refl

-- ---- Stock Directory

stock_directory_again : (m : StockDirectory) → IsStockDirectory m → feed_message_of (stock_directory_bytes m) ≡ Some (variant.StockDirectory m)
unfolding spelled
stock_directory_again m fits =
    let made : List ℕ → List ℕ → StockDirectory = λ t0 t1. record m { stock = record { 0 = t0 }; tail = t1 } in
    let Back : List ℕ → List ℕ → Type 0 = λ t0 t1. feed_message_of (stock_directory_bytes (made t0 t1)) ≡ Some (variant.StockDirectory (made t0 t1)) in
    by_cells (λ x. Back x m.tail) 8 m.stock.0 fits.stock
    (by_cells (λ x. Back (cells 8 m.stock.0) x) 20 m.tail fits.tail
    (rw (number_2 m.locate fits.locate, number_6 m.time fits.time) refl))

-- ---- Add Order - No MPID Attribution

add_order_again : (m : AddOrder) → IsAddOrder m → feed_message_of (add_order_bytes m) ≡ Some (variant.AddOrder m)
unfolding spelled
add_order_again m fits =
    let made : List ℕ → AddOrder = λ t0. record m { stock = record { 0 = t0 } } in
    let Back : List ℕ → Type 0 = λ t0. feed_message_of (add_order_bytes (made t0)) ≡ Some (variant.AddOrder (made t0)) in
    by_cells (λ x. Back x) 8 m.stock.0 fits.stock
    (rw (number_2 m.locate fits.locate, number_6 m.time fits.time, number_8 m.reference fits.reference, number_4 m.shares fits.shares, number_4 m.price fits.price) refl)

-- ---- Add Order with MPID Attribution

add_order_with_attribution_again : (m : AddOrderWithAttribution) → IsAddOrderWithAttribution m → feed_message_of (add_order_with_attribution_bytes m) ≡ Some (variant.AddOrderWithAttribution m)
unfolding spelled
add_order_with_attribution_again m fits =
    let made : List ℕ → List ℕ → AddOrderWithAttribution = λ t0 t1. record m { stock = record { 0 = t0 }; attribution = record { 0 = t1 } } in
    let Back : List ℕ → List ℕ → Type 0 = λ t0 t1. feed_message_of (add_order_with_attribution_bytes (made t0 t1)) ≡ Some (variant.AddOrderWithAttribution (made t0 t1)) in
    by_cells (λ x. Back x m.attribution.0) 8 m.stock.0 fits.stock
    (by_cells (λ x. Back (cells 8 m.stock.0) x) 4 m.attribution.0 fits.attribution
    (rw (number_2 m.locate fits.locate, number_6 m.time fits.time, number_8 m.reference fits.reference, number_4 m.shares fits.shares, number_4 m.price fits.price) refl))

-- ---- Order Executed

order_executed_again : (m : OrderExecuted) → IsOrderExecuted m → feed_message_of (order_executed_bytes m) ≡ Some (variant.OrderExecuted m)
unfolding spelled
order_executed_again m fits =
    rw (number_2 m.locate fits.locate, number_6 m.time fits.time, number_8 m.reference fits.reference, number_4 m.shares fits.shares, number_8 m.match_number fits.match_number) refl

-- ---- Order Cancel

order_cancel_again : (m : OrderCancel) → IsOrderCancel m → feed_message_of (order_cancel_bytes m) ≡ Some (variant.OrderCancel m)
unfolding spelled
order_cancel_again m fits =
    rw (number_2 m.locate fits.locate, number_6 m.time fits.time, number_8 m.reference fits.reference, number_4 m.shares fits.shares) refl

-- ---- Order Delete

order_delete_again : (m : OrderDelete) → IsOrderDelete m → feed_message_of (order_delete_bytes m) ≡ Some (variant.OrderDelete m)
unfolding spelled
order_delete_again m fits =
    rw (number_2 m.locate fits.locate, number_6 m.time fits.time, number_8 m.reference fits.reference) refl

-- ---- Order Replace

order_replace_again : (m : OrderReplace) → IsOrderReplace m → feed_message_of (order_replace_bytes m) ≡ Some (variant.OrderReplace m)
unfolding spelled
order_replace_again m fits =
    rw (number_2 m.locate fits.locate, number_6 m.time fits.time, number_8 m.original_reference fits.original_reference, number_8 m.reference fits.reference, number_4 m.shares fits.shares, number_4 m.price fits.price) refl

-- ---- Trade Message (Non-Cross)

trade_again : (m : Trade) → IsTrade m → feed_message_of (trade_bytes m) ≡ Some (variant.Trade m)
unfolding spelled
trade_again m fits =
    let made : List ℕ → Trade = λ t0. record m { stock = record { 0 = t0 } } in
    let Back : List ℕ → Type 0 = λ t0. feed_message_of (trade_bytes (made t0)) ≡ Some (variant.Trade (made t0)) in
    by_cells (λ x. Back x) 8 m.stock.0 fits.stock
    (rw (number_2 m.locate fits.locate, number_6 m.time fits.time, number_4 m.shares fits.shares, number_4 m.price fits.price, number_8 m.match_number fits.match_number) refl)

-- ---- Stock Trading Action

stock_trading_action_again : (m : StockTradingAction) → IsStockTradingAction m → feed_message_of (stock_trading_action_bytes m) ≡ Some (variant.StockTradingAction m)
unfolding spelled
stock_trading_action_again m fits =
    let made : List ℕ → List ℕ → StockTradingAction = λ t0 t1. record m { stock = record { 0 = t0 }; reason = t1 } in
    let Back : List ℕ → List ℕ → Type 0 = λ t0 t1. feed_message_of (stock_trading_action_bytes (made t0 t1)) ≡ Some (variant.StockTradingAction (made t0 t1)) in
    by_cells (λ x. Back x m.reason) 8 m.stock.0 fits.stock
    (by_cells (λ x. Back (cells 8 m.stock.0) x) 4 m.reason fits.reason
    (rw (number_2 m.locate fits.locate, number_6 m.time fits.time) refl))

-- ---- Broken Trade

broken_trade_again : (m : BrokenTrade) → IsBrokenTrade m → feed_message_of (broken_trade_bytes m) ≡ Some (variant.BrokenTrade m)
unfolding spelled
broken_trade_again m fits =
    rw (number_2 m.locate fits.locate, number_6 m.time fits.time, number_8 m.match_number fits.match_number) refl

-- ---- any message

pub feed_again : (m : Feed) → IsFeed m → feed_message_of (feed_bytes m) ≡ Some m
feed_again (variant.SystemEvent m) fits = system_event_again m fits
feed_again (variant.StockDirectory m) fits = stock_directory_again m fits
feed_again (variant.AddOrder m) fits = add_order_again m fits
feed_again (variant.AddOrderWithAttribution m) fits = add_order_with_attribution_again m fits
feed_again (variant.OrderExecuted m) fits = order_executed_again m fits
feed_again (variant.OrderCancel m) fits = order_cancel_again m fits
feed_again (variant.OrderDelete m) fits = order_delete_again m fits
feed_again (variant.OrderReplace m) fits = order_replace_again m fits
feed_again (variant.Trade m) fits = trade_again m fits
feed_again (variant.StockTradingAction m) fits = stock_trading_action_again m fits
feed_again (variant.BrokenTrade m) fits = broken_trade_again m fits

-- ---- which bytes are a message

pub feed_readable : (bytes : List ℕ) → IsSome (feed_message_of bytes) ↔ IsTrue (is_feed_message bytes)
feed_readable bytes =
    let same : is_some (feed_message_of bytes) ≡ is_feed_message bytes =
    is_some-first (is_message 12 83 bytes) (variant.SystemEvent (system_event_of bytes)) _
    ∙ is_some-next _ (is_message 39 82 bytes) (variant.StockDirectory (stock_directory_of bytes)) _
    ∙ is_some-next _ (is_message 36 65 bytes) (variant.AddOrder (add_order_of bytes)) _
    ∙ is_some-next _ (is_message 40 70 bytes) (variant.AddOrderWithAttribution (add_order_with_attribution_of bytes)) _
    ∙ is_some-next _ (is_message 31 69 bytes) (variant.OrderExecuted (order_executed_of bytes)) _
    ∙ is_some-next _ (is_message 23 88 bytes) (variant.OrderCancel (order_cancel_of bytes)) _
    ∙ is_some-next _ (is_message 19 68 bytes) (variant.OrderDelete (order_delete_of bytes)) _
    ∙ is_some-next _ (is_message 35 85 bytes) (variant.OrderReplace (order_replace_of bytes)) _
    ∙ is_some-next _ (is_message 44 80 bytes) (variant.Trade (trade_of bytes)) _
    ∙ is_some-next _ (is_message 25 72 bytes) (variant.StockTradingAction (stock_trading_action_of bytes)) _
    ∙ is_some-last _ (is_message 19 66 bytes) (variant.BrokenTrade (broken_trade_of bytes)) in
    (λ s. sym same ∙ s, λ t. same ∙ t)

-- ---- a time that is read has 6 bytes

time_in_12 : (bytes : List ℕ) → AreBytes bytes → length bytes ≡ 12 → number_at 5 6 bytes < 2 ^ 48
time_in_12 bytes fits len = by_cells (λ b. number_at 5 6 b < 2 ^ 48) 12 bytes len
    (omega (arith, fits 5, fits 6, fits 7, fits 8, fits 9, fits 10))

time_in_19 : (bytes : List ℕ) → AreBytes bytes → length bytes ≡ 19 → number_at 5 6 bytes < 2 ^ 48
time_in_19 bytes fits len = by_cells (λ b. number_at 5 6 b < 2 ^ 48) 19 bytes len
    (omega (arith, fits 5, fits 6, fits 7, fits 8, fits 9, fits 10))

time_in_23 : (bytes : List ℕ) → AreBytes bytes → length bytes ≡ 23 → number_at 5 6 bytes < 2 ^ 48
time_in_23 bytes fits len = by_cells (λ b. number_at 5 6 b < 2 ^ 48) 23 bytes len
    (omega (arith, fits 5, fits 6, fits 7, fits 8, fits 9, fits 10))

time_in_25 : (bytes : List ℕ) → AreBytes bytes → length bytes ≡ 25 → number_at 5 6 bytes < 2 ^ 48
time_in_25 bytes fits len = by_cells (λ b. number_at 5 6 b < 2 ^ 48) 25 bytes len
    (omega (arith, fits 5, fits 6, fits 7, fits 8, fits 9, fits 10))

time_in_31 : (bytes : List ℕ) → AreBytes bytes → length bytes ≡ 31 → number_at 5 6 bytes < 2 ^ 48
time_in_31 bytes fits len = by_cells (λ b. number_at 5 6 b < 2 ^ 48) 31 bytes len
    (omega (arith, fits 5, fits 6, fits 7, fits 8, fits 9, fits 10))

time_in_35 : (bytes : List ℕ) → AreBytes bytes → length bytes ≡ 35 → number_at 5 6 bytes < 2 ^ 48
time_in_35 bytes fits len = by_cells (λ b. number_at 5 6 b < 2 ^ 48) 35 bytes len
    (omega (arith, fits 5, fits 6, fits 7, fits 8, fits 9, fits 10))

time_in_36 : (bytes : List ℕ) → AreBytes bytes → length bytes ≡ 36 → number_at 5 6 bytes < 2 ^ 48
time_in_36 bytes fits len = by_cells (λ b. number_at 5 6 b < 2 ^ 48) 36 bytes len
    (omega (arith, fits 5, fits 6, fits 7, fits 8, fits 9, fits 10))

time_in_39 : (bytes : List ℕ) → AreBytes bytes → length bytes ≡ 39 → number_at 5 6 bytes < 2 ^ 48
time_in_39 bytes fits len = by_cells (λ b. number_at 5 6 b < 2 ^ 48) 39 bytes len
    (omega (arith, fits 5, fits 6, fits 7, fits 8, fits 9, fits 10))

time_in_40 : (bytes : List ℕ) → AreBytes bytes → length bytes ≡ 40 → number_at 5 6 bytes < 2 ^ 48
time_in_40 bytes fits len = by_cells (λ b. number_at 5 6 b < 2 ^ 48) 40 bytes len
    (omega (arith, fits 5, fits 6, fits 7, fits 8, fits 9, fits 10))

time_in_44 : (bytes : List ℕ) → AreBytes bytes → length bytes ≡ 44 → number_at 5 6 bytes < 2 ^ 48
time_in_44 bytes fits len = by_cells (λ b. number_at 5 6 b < 2 ^ 48) 44 bytes len
    (omega (arith, fits 5, fits 6, fits 7, fits 8, fits 9, fits 10))

pub feed_time_fits : (bytes : List ℕ) → AreBytes bytes → IfSome (feed_message_of bytes) (λ m. feed_time m < 2 ^ 48)
feed_time_fits bytes fits =
    let Fits : Feed → Type 0 = λ m. feed_time m < 2 ^ 48 in
    first_message Fits 12 83 bytes (variant.SystemEvent (system_event_of bytes)) _ (λ len first. time_in_12 bytes fits len)
    (first_message Fits 39 82 bytes (variant.StockDirectory (stock_directory_of bytes)) _ (λ len first. time_in_39 bytes fits len)
    (first_message Fits 36 65 bytes (variant.AddOrder (add_order_of bytes)) _ (λ len first. time_in_36 bytes fits len)
    (first_message Fits 40 70 bytes (variant.AddOrderWithAttribution (add_order_with_attribution_of bytes)) _ (λ len first. time_in_40 bytes fits len)
    (first_message Fits 31 69 bytes (variant.OrderExecuted (order_executed_of bytes)) _ (λ len first. time_in_31 bytes fits len)
    (first_message Fits 23 88 bytes (variant.OrderCancel (order_cancel_of bytes)) _ (λ len first. time_in_23 bytes fits len)
    (first_message Fits 19 68 bytes (variant.OrderDelete (order_delete_of bytes)) _ (λ len first. time_in_19 bytes fits len)
    (first_message Fits 35 85 bytes (variant.OrderReplace (order_replace_of bytes)) _ (λ len first. time_in_35 bytes fits len)
    (first_message Fits 44 80 bytes (variant.Trade (trade_of bytes)) _ (λ len first. time_in_44 bytes fits len)
    (first_message Fits 25 72 bytes (variant.StockTradingAction (stock_trading_action_of bytes)) _ (λ len first. time_in_25 bytes fits len)
    (first_message Fits 19 66 bytes (variant.BrokenTrade (broken_trade_of bytes)) None (λ len first. time_in_19 bytes fits len) tt))))))))))
