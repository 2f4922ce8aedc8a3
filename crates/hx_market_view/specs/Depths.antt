-- The whole depth of a stock.
use Rattle.std.specs.Prelude.{ℕ, ◌≡◌, List, [], ◌∷◌, Option, Some, None}
use Rattle.hx_units.specs.Letters.{letter}
use Rattle.hx_itch.specs.declared.shown_order.ShownOrder.{ShownOrder}
use Rattle.hx_reader.specs.declared.level.PriceLevel.{PriceLevel}
use Rattle.hx_reader.specs.Prices.{prices, below, above, IsHighest, IsLowest}
use Rattle.hx_reader.specs.Depth.{level_of}
use Rattle.json.specs.Print.{print}
use Rattle.hx_market_view.specs.declared.trade.Trade.{Trade}
use Rattle.hx_market_view.specs.declared.listing.Listing.{Listing}
use Rattle.hx_market_view.specs.Texts.{stock_tokens}

-- the bids of a stock below a limit: the highest price of its buys there with what stands at it,
-- then the bids below that price, until there is none
abbrev pub AreBids :
    (book : List ShownOrder) → (locate : ℕ) → (limit : Option ℕ) → List PriceLevel → Type 0
AreBids book locate limit [] = IsHighest (below limit (prices locate (letter "B") book)) None
AreBids book locate limit (l ∷ levels) =
    IsHighest (below limit (prices locate (letter "B") book)) (Some l.price)
    × (l ≡ level_of locate (letter "B") l.price book)
    × AreBids book locate (Some l.price) levels

-- the offers of a stock above a limit, the lowest first
abbrev pub AreOffers :
    (book : List ShownOrder) → (locate : ℕ) → (limit : Option ℕ) → List PriceLevel → Type 0
AreOffers book locate limit [] = IsLowest (above limit (prices locate (letter "S") book)) None
AreOffers book locate limit (l ∷ levels) =
    IsLowest (above limit (prices locate (letter "S") book)) (Some l.price)
    × (l ≡ level_of locate (letter "S") l.price book)
    × AreOffers book locate (Some l.price) levels

-- the text of a stock has all bids and all offers that the book has of it
abbrev pub TellsDepth : Listing → (book : List ShownOrder) → (last : List Trade) → List ℕ → Type 0
TellsDepth l book last text =
    (bids : List PriceLevel) × (offers : List PriceLevel) × AreBids book l.locate None bids
    × AreOffers book l.locate None offers × (text ≡ print (stock_tokens l bids offers last))
