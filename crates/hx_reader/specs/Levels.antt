-- The levels that a book stores: one for each price at which there is an order.
use Rattle.std.specs.Prelude.{ℕ, zero, suc, ◌+◌, ◌-◌, List, Option, Some, None}
use Rattle.std.specs.declared.cmp.Ordering.{Ordering}
use Rattle.std.specs.Ordering.{nat_cmp, ordering_then}
use Rattle.std.specs.BTreeMap.{BTreeMap, get}
use Rattle.std.specs.BTreeMap.Range.{IsLeBy, IsLtBy}
use Rattle.std.specs.declared.ops.Bound.{Bound}
use Rattle.std.specs.declared.ops.Bound.TheVariants.{Included, Excluded, Unbounded}
use Rattle.hx_itch.specs.declared.shown_order.ShownOrder.{ShownOrder}
use Rattle.hx_reader.specs.declared.levels.LevelKey.{LevelKey}
use Rattle.hx_reader.specs.declared.levels.Level.{Level}
use Rattle.hx_reader.specs.Prices.{orders_at, shares_at}

-- the order of level keys in the table: by stock, side and price
abbrev pub level_key_cmp : LevelKey → LevelKey → Ordering
level_key_cmp a b =
    ordering_then (nat_cmp a.locate b.locate)
    (ordering_then (nat_cmp a.side b.side) (nat_cmp a.price b.price))

-- the level of a level key, if there is one
abbrev pub level_at : BTreeMap LevelKey Level → LevelKey → Option Level
level_at levels at = get level_key_cmp levels at

-- the level that `orders` orders with `shares` shares make, none if there is no order
abbrev pub level_with : (orders shares : ℕ) → Option Level
level_with zero shares = None
level_with (suc n) shares = Some (record { shares = shares; orders = suc n })

-- a level with an order of `shares` shares more
abbrev pub grown : (shares : ℕ) → Option Level → Option Level
grown shares None = level_with 1 shares
grown shares (Some l) = level_with (suc l.orders) (l.shares + shares)

-- a level with an order of `shares` shares less
abbrev pub lessened : (shares : ℕ) → Option Level → Option Level
lessened shares None = None
lessened shares (Some l) = level_with (l.orders - 1) (l.shares - shares)

-- a level whose orders have `shares` shares fewer
abbrev pub reduced : (shares : ℕ) → Option Level → Option Level
reduced shares None = None
reduced shares (Some l) = Some (record l { shares = l.shares - shares })

-- the level of a book's orders at a level key
abbrev pub level_in : LevelKey → List ShownOrder → Option Level
level_in q book =
    level_with (orders_at q.locate q.side q.price book) (shares_at q.locate q.side q.price book)

-- the level keys of a stock's side

-- the level key of a price
abbrev pub level_key_at : (locate side price : ℕ) → LevelKey
level_key_at locate side price = record { locate = locate; side = side; price = price }

-- where those below a limit end, which is left out, or all
abbrev pub bids_end : (locate side : ℕ) → (limit : Option ℕ) → LevelKey
bids_end locate side None = level_key_at locate (side + 1) 0
bids_end locate side (Some limit) = level_key_at locate side limit

-- where those above a limit begin, or all
abbrev pub offers_begin : (locate side : ℕ) → (limit : Option ℕ) → Bound LevelKey
offers_begin locate side None = Included (level_key_at locate side 0)
offers_begin locate side (Some limit) = Excluded (level_key_at locate side limit)

-- a bound is not after a level key
abbrev pub IsBefore : Bound LevelKey → LevelKey → Type 0
IsBefore (Included from) to = IsLeBy level_key_cmp from to
IsBefore (Excluded from) to = IsLtBy level_key_cmp from to
IsBefore Unbounded to = Unit {0}
