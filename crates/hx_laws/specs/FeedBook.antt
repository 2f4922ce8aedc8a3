-- The book that a reader of the feed builds, and the live orders as the feed publishes them.
unfoldable pub use Rattle.hx_itch.specs.Books.{shown_book}
pub use Rattle.hx_itch.specs.Books.{taken_from, without, renewed, book_after, book_from}
pub use Rattle.hx_itch.specs.declared.shown_order.ShownOrder.{ShownOrder}
use Rattle.std.specs.Prelude.{◌≡◌, ◌<◌, ◌==◌, if◌then◌else◌, List, map, Some, None}
use Rattle.std.specs.List.{AllByRecursion}
use Rattle.hx_members.specs.Setups.{Setup, symbol_of}
use Rattle.hx_units.specs.declared.side.Side.TheVariants.{Buy, Sell}
use Rattle.hx_units.specs.Side.{letter_of}
use Rattle.hx_rules.specs.Letters.{attributable}
use Rattle.hx_rules.specs.Orders.{Order, published_side}
use Rattle.hx_rules.specs.Executions.{shown_of}

-- a live order as the feed publishes it: each kind of sale as `S`, and its firm at display `A`
-- alone
abbrev pub shown_as : Setup → Order → ShownOrder
shown_as setup x =
    record {
      reference = x.reference;
      locate = x.locate;
      side = published_side x.side;
      shares = x.shares;
      stock = symbol_of setup x.locate;
      price = x.price;
      attribution = if x.display == attributable then Some x.firm else None;
    }

-- the shown orders of a list
abbrev pub shown_orders : Setup → List Order → List ShownOrder
shown_orders setup orders = map (shown_as setup) (shown_of orders)

-- a buy of a stock has a lower price than a sell of it
abbrev pub DoNotCross : ShownOrder → ShownOrder → Type 0
DoNotCross x y =
    x.locate ≡ y.locate → x.side ≡ letter_of Buy → y.side ≡ letter_of Sell → x.price < y.price

-- no buy of the book has a price at or above a sell of the same stock
abbrev pub IsUncrossed : List ShownOrder → Type 0
IsUncrossed book = AllByRecursion (λ x. AllByRecursion (λ y. DoNotCross x y) book) book
