-- The content of the web page's texts: JSON (RFC 8259), as its tokens in their order.
use Prim.Native.String.{String}
use Rattle.std.specs.Prelude.{ℕ, ◌≡◌, Bool, List, [], ◌∷◌, ◌++◌, flat_map, Option, Some, None, Result, OnOk, codes, decimal}
use Rattle.std.specs.Option.{option_to_list}
use Rattle.json.specs.Token.{Token, begin_object, end_object, begin_array, end_array, key, string, number, boolean, null}
use Rattle.json.specs.Written.{Written}
use Rattle.hx_reader.specs.declared.level.PriceLevel.{PriceLevel}
use Rattle.hx_market_view.specs.declared.trade.Trade.{Trade}
use Rattle.hx_market_view.specs.declared.chart.Quote.{Quote}
use Rattle.hx_market_view.specs.declared.listing.Listing.{Listing}
use Rattle.hx_market_view.specs.declared.status.Status.{Status}
use Rattle.hx_market_view.specs.Names.{shown_name}

-- on success these tokens are appended to those that there were
pub record Adds {E : Type 0} (r : Result (Unit {0}) E) (old new : Written) (ts : List Token)
    : Type 0 where
  pub before : OnOk r (new.before ≡ old.before)
  pub tokens : OnOk r (new.tokens ≡ old.tokens ++ ts)

-- ---- members of an object

unfoldable pub number_member : (name : List ℕ) → ℕ → List Token
number_member name n = key name ∷ number (decimal n) ∷ []

unfoldable pub string_member : (name text : List ℕ) → List Token
string_member name text = key name ∷ string (shown_name text) ∷ []

unfoldable pub boolean_member : (name : List ℕ) → Bool → List Token
boolean_member name holds = key name ∷ boolean holds ∷ []

-- a price in units of 1/10,000 dollar, null if there is none
unfoldable pub price_member : (name : List ℕ) → Option ℕ → List Token
price_member name (Some price) = number_member name price
price_member name None = key name ∷ null ∷ []

-- an array of what each of some things is
unfoldable pub array_member :
    {A : Type 0} → (name : List ℕ) → (A → List Token) → List A → List Token
array_member name f xs = key name ∷ begin_array ∷ (flat_map f xs ++ end_array ∷ [])

-- ---- a book and its executions

unfoldable pub level_tokens : PriceLevel → List Token
level_tokens l =
    begin_object
    ∷ (number_member (codes "price") l.price ++ number_member (codes "shares") l.shares
    ++ number_member (codes "orders") l.orders ++ end_object ∷ [])

abbrev pub side_member : (name : List ℕ) → List PriceLevel → List Token
side_member name levels = array_member name level_tokens levels

unfoldable pub trade_tokens : Trade → List Token
trade_tokens t =
    begin_object
    ∷ (number_member (codes "match") t.match_number ++ number_member (codes "time") t.time
    ++ number_member (codes "price") t.price ++ number_member (codes "shares") t.shares
    ++ boolean_member (codes "broken") t.is_broken ++ end_object ∷ [])

abbrev pub trades_member : (name : List ℕ) → List Trade → List Token
trades_member name ts = array_member name trade_tokens ts

-- ---- a stock

unfoldable pub stock_head : Listing → List Token
stock_head l =
    string_member (codes "stock") l.stock.0 ++ number_member (codes "locate") l.locate
    ++ boolean_member (codes "halted") l.is_halted ++ number_member (codes "messages") l.messages
    ++ number_member (codes "trades") l.trades ++ number_member (codes "shares") l.shares

abbrev pub stock_tokens :
    Listing → (bids offers : List PriceLevel) → (last : List Trade) → List Token
stock_tokens l bids offers last =
    begin_object ∷ (stock_head l ++ side_member (codes "bids") bids
    ++ side_member (codes "offers") offers ++ trades_member (codes "last") last ++ end_object ∷ [])

-- ---- the feed

abbrev pub status_tokens : Status → List Token
status_tokens s =
    begin_object ∷ (string_member (codes "session") s.session
    ++ string_member (codes "hours") (option_to_list s.hours)
    ++ number_member (codes "time") s.time ++ number_member (codes "messages") s.messages
    ++ number_member (codes "missing") s.missing ++ number_member (codes "asked") s.asked
    ++ boolean_member (codes "over") s.is_over ++ end_object ∷ [])

-- ---- a chart

unfoldable pub quote_tokens : Quote → List Token
quote_tokens q =
    begin_object ∷ (number_member (codes "time") q.time ++ price_member (codes "bid") q.bid
    ++ price_member (codes "offer") q.offer ++ end_object ∷ [])

abbrev pub quotes_member : List Quote → List Token
quotes_member qs = array_member (codes "quotes") quote_tokens qs

abbrev pub chart_tokens :
    (stock : List ℕ) → (locate : ℕ) → List Trade → List Quote → List Token
chart_tokens stock locate ts qs =
    begin_object ∷ (string_member (codes "stock") stock ++ number_member (codes "locate") locate
    ++ trades_member (codes "trades") ts ++ quotes_member qs ++ end_object ∷ [])
