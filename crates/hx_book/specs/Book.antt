-- The book as the list of live orders in time order, each under its key; and which order ranks before which: a better
-- price first, then a displayed order before one that is not, then the earlier (the rule of price, display and time).
use Rattle.std.specs.Prelude.{◌≡◌, ℕ, ◌<◌, ◌-◌, ◌==◌, ◌||◌, ◌&&◌, not, nat_lt, nat_le, Bool, true, false, List, [], ◌∷◌, Option, Some, None, if◌then◌else◌, ◌+◌, length, drop, min, max, slice_get, slice_index_or, slice_set, map}
use Rattle.std.specs.List.{filter, find, list_any, remove}
use Rattle.std.specs.Option.{option_map, is_some, IsSome, IfSome}
use Rattle.hx_units.specs.declared.side.Side.{Side}
use Rattle.hx_units.specs.Side.{is_buy}
use Rattle.hx_book.specs.declared.order.Key.{Key}
use Rattle.hx_book.specs.declared.order.Order.{Order}
use Rattle.hx_book.specs.declared.order.Live.{Live}
use Rattle.hx_book.specs.declared.order.Terms.{Terms}
use Rattle.hx_book.specs.declared.order.Walk.{Walk}
use Rattle.std.specs.Global.{Vec}
use Rattle.std.specs.Vec.{vec_len, vec_capacity}
use Rattle.slab.specs.Slab.{Slab, get, HasRoomFor}
use Rattle.hx_book.specs.Lists.{head_of, after_first, drop_first}
use Rattle.hx_book.specs.Rank.{by_rank}

-- the terms of a stock, a side and a limit
abbrev pub terms_at : (locate : ℕ) → Side → (price : ℕ) → Terms
terms_at locate side price = record { locate = locate; side = side; price = price }

-- the terms of an order
abbrev pub terms_of : Order → Terms
terms_of order = terms_at order.locate order.side order.price

-- one buys and the other sells
abbrev pub is_other_side : Side → Side → Bool
is_other_side a b = if is_buy a then not (is_buy b) else is_buy b

-- the order is of the same stock and the other side, at a price equal or better for the incoming terms
abbrev pub crosses : Terms → Order → Bool
crosses terms order =
    (order.locate == terms.locate) && is_other_side terms.side order.side
    && (if is_buy terms.side then nat_le order.price terms.price
    else nat_le terms.price order.price)

-- the first price is better for an incoming order of this side than the second
abbrev pub is_better_price : Side → (price other : ℕ) → Bool
is_better_price side price other = if is_buy side then nat_lt price other else nat_lt other price

-- x ranks above y, wherever they stand: a better price, or the same price and x is shown and y is not
abbrev pub outranks : Side → Order → Order → Bool
outranks side x y =
    is_better_price side x.price y.price || (x.price == y.price && x.shown && not y.shown)

-- the same of orders under keys
abbrev pub is_ahead : Side → Live → Live → Bool
is_ahead side x y = outranks side x.order y.order

-- the orders that cross, by rank; those that rank alike in time order
abbrev pub ranked : Terms → List Live → List Live
ranked terms orders =
    by_rank (is_ahead terms.side) (filter (λ live. crosses terms live.order) orders)

-- the order stands under this key
abbrev pub is_under : ℕ → Live → Bool
is_under key live = live.key.0 == key

-- an order of the list has this key
abbrev pub has_key : ℕ → List Live → Bool
has_key key orders = list_any (is_under key) orders

-- no two orders have the same key
abbrev pub KeysDiffer : List Live → Type 0
KeysDiffer [] = Unit {0}
KeysDiffer (live ∷ rest) = (has_key live.key.0 rest ≡ false) × KeysDiffer rest

-- the order that has this key
abbrev pub order_of : ℕ → List Live → Option Order
order_of key orders = option_map (λ live. live.order) (find (is_under key) orders)

-- the order with n open shares less
abbrev pub with_less : ℕ → Order → Order
with_less by order = record order { shares = order.shares - by }

-- the shares of the order with the key are by less
abbrev pub reduced : (key by : ℕ) → List Live → List Live
reduced key by [] = []
reduced key by (live ∷ rest) =
    if is_under key live then record live { order = with_less by live.order } ∷ rest
    else live ∷ reduced key by rest

-- the list without the order that has the key
abbrev pub without : ℕ → List Live → List Live
without key orders = drop_first (is_under key) orders

-- the first key, or the one after the order that has the key `after`
abbrev pub key_after : Option Key → List Live → Option Key
key_after None orders = option_map (λ live. live.key) (head_of orders)
key_after (Some after) orders =
    option_map (λ live. live.key) (head_of (after_first (is_under after.0) orders))

-- the next order by rank, of those that cross
abbrev pub next_by_rank : Terms → Option Key → List Live → Option Key
next_by_rank terms after orders = key_after after (ranked terms orders)

-- the next order in time
abbrev pub next_by_time : Option Key → List Live → Option Key
next_by_time after orders = key_after after orders

-- the key is that of an order that crosses
abbrev pub IsRanked : Terms → ℕ → List Live → Type 0
IsRanked terms key orders = has_key key (ranked terms orders) ≡ true

-- with `left` open shares of an incoming order, each of whose executions has to have `minimum` shares at least, the
-- shares that would be executed are one at least, reach that minimum, and reach the resting order's minimum as far as its
-- open shares go (OUCH 4.2, Enter Order: Minimum Quantity, which one execution meets alone)
abbrev pub qualifies : (left minimum : ℕ) → Order → Bool
qualifies left minimum x =
    nat_le (max 1 (max minimum (min x.minimum x.shares))) (min left x.shares)

-- the order has a minimum above one: an incoming order may be too small for it
abbrev pub is_conditional : Order → Bool
is_conditional x = nat_lt 1 x.minimum

-- all, or those after the order that has the key
abbrev pub rest_after : Option Key → List Live → List Live
rest_after None orders = orders
rest_after (Some after) orders = after_first (is_under after.0) orders

-- the next order by rank, of those that cross and qualify
abbrev pub next_qualifying : Terms → Option Key → (left minimum : ℕ) → List Live → Option Key
next_qualifying terms after left minimum orders =
    option_map (λ live. live.key)
    (find (λ live. qualifies left minimum live.order) (rest_after after (ranked terms orders)))

-- the order is not conditional, and has at least `least` open shares
abbrev pub is_ready : (least : ℕ) → Live → Bool
is_ready least live = not (is_conditional live.order) && nat_le least live.order.shares

-- the next of these by rank, of those that cross
abbrev pub next_ready : Terms → Option Key → (least : ℕ) → List Live → Option Key
next_ready terms after least orders =
    option_map (λ live. live.key) (find (is_ready least) (rest_after after (ranked terms orders)))

-- a walk stands after an order that crosses, or before all; what it knows of the next that is not conditional is true
pub record IsWalk (terms : Terms) (minimum : ℕ) (orders : List Live) (walk : Walk) : Type 0 where
  pub ranked : IfSome walk.after (λ key. has_key key.0 (ranked terms orders) ≡ true)
  pub ahead : IfSome walk.ahead (λ next. next ≡ next_ready terms walk.after (max 1 minimum) orders)

-- the orders, without their keys
abbrev pub lives : List Live → List Order
lives orders = map (λ live. live.order) orders

-- what contracts see of a book
pub record Contents : Type 0 where
  pub orders : List Live
  pub reserved : Option Terms

-- a list of orders whose keys are those in use, with room for one more if a slot is reserved
pub record IsList (entries : Vec Live) (keys : Slab Bool) (reserved : Option Terms) : Type 0 where
  pub differ : KeysDiffer entries.items
  pub used : (key : ℕ) → has_key key entries.items ≡ is_some (get keys key)
  pub room : IsSome reserved → (vec_len entries < vec_capacity entries) × HasRoomFor keys 1

-- it crosses and, if there is one, the other ranks above it
abbrev pub is_candidate : Terms → Option Live → Live → Bool
is_candidate terms None live = crosses terms live.order
is_candidate terms (Some other) live = crosses terms live.order && is_ahead terms.side other live

-- it crosses at the same price, and is shown if the other is
abbrev pub is_equal : Terms → Order → Live → Bool
is_equal terms other live =
    crosses terms live.order && (live.order.price == other.price)
    && (if live.order.shown then other.shown else not other.shown)

-- the order with the key is at this index
pub record IsIndex (key : ℕ) (entries : List Live) (i : ℕ) : Type 0 where
  pub in_range : i < length entries
  pub has : has_key key entries ≡ true
  pub found : slice_get entries i ≡ find (is_under key) entries
  pub later : drop (i + 1) entries ≡ after_first (is_under key) entries
  pub without : remove entries i ≡ drop_first (is_under key) entries
  pub reduced : (d : Live) (by : ℕ) → let live = slice_index_or entries i d in
      slice_set entries i (record live { order = with_less by live.order }) ≡ reduced key by entries
