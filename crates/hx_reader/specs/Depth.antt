-- The content of a book at a price.
use Rattle.std.specs.Prelude.{ℕ, List}
use Rattle.hx_itch.specs.declared.shown_order.ShownOrder.{ShownOrder}
use Rattle.hx_reader.specs.declared.level.PriceLevel.{PriceLevel}
use Rattle.hx_reader.specs.Prices.{orders_at, shares_at}

-- a price of a stock's side, with the orders and shares that stand there
abbrev pub level_of : (locate side price : ℕ) → List ShownOrder → PriceLevel
level_of locate side price book =
    record {
      price = price;
      shares = shares_at locate side price book;
      orders = orders_at locate side price book;
    }
