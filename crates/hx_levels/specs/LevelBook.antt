-- How the linked orders, the levels and the links hold a list of live orders.
use Rattle.std.specs.Prelude.{◌≡◌, ℕ, ◌+◌, ◌*◌, ◌^◌, ◌-◌, ◌<◌, ◌≤◌, ◌==◌, ◌&&◌, not, suc, zero, min, max, Bool, true, false, List, [], ◌∷◌, map, length, Option, Some, None, if◌then◌else◌}
use Rattle.std.specs.List.{filter, find, AllByRecursion}
use Rattle.std.specs.Option.{option_map, unwrap_or, IsSome, IfSome}
use Rattle.slab.specs.Slab.{Slab, get, HasRoomFor}
use Rattle.hx_book.specs.declared.order.Key.{Key}
use Rattle.hx_book.specs.declared.order.Live.{Live}
use Rattle.hx_book.specs.declared.order.Terms.{Terms}
use Rattle.hx_levels.specs.declared.level_book.linked_orders.LinkedOrder.{LinkedOrder}
use Rattle.hx_levels.specs.declared.level_book.linked_orders.Ends.{Ends}
use Rattle.hx_levels.specs.declared.level_book.levels.Level.{Level}
use Rattle.hx_levels.specs.Chain.{IsLinked}
use Rattle.hx_levels.specs.OrderLinks.{time_links, queue_links, number_at}
use Rattle.hx_levels.specs.LevelKeys.{LevelKey, level_key_number}
use Rattle.hx_levels.specs.Levels.{LevelStore, level_at, ends_in, IsEmptyLevel}
use Rattle.hx_units.specs.Side.{is_buy}
use Rattle.hx_units.specs.Limits.{greatest_price}
use Rattle.hx_book.specs.Book.{terms_of, order_of, KeysDiffer, is_conditional}
use Rattle.hx_book.specs.declared.order.Order.{Order}
use Rattle.hx_ranked.specs.declared.entry.Entry.{Entry}
use Rattle.hx_ranked.specs.Contents.{Contents as Ranked}
use Rattle.hx_ranked.specs.Ranked.{has_rank}

-- a number above each price: the distance of a buy's level counts down from it
abbrev pub above_prices : ℕ
above_prices = 2000000000

-- a key by its number
abbrev pub to_key : ℕ → Key
to_key n = record { 0 = n }

-- the level of these terms. Of one stock and side the better price has the smaller distance
abbrev pub level_key_of : Terms → LevelKey
level_key_of terms =
    record {
      locate = terms.locate;
      buy = is_buy terms.side;
      distance = if is_buy terms.side then above_prices - terms.price else terms.price;
    }

-- whether both are true or both are false
abbrev pub is_same_bool : Bool → Bool → Bool
is_same_bool a b = if a then b else not b

-- whether two levels are the same
abbrev pub is_level_key : LevelKey → LevelKey → Bool
is_level_key a b = (a.locate == b.locate) && is_same_bool a.buy b.buy && (a.distance == b.distance)

-- the order is in the queue of this level, of those that are shown or of those that are not
abbrev pub is_in : LevelKey → Bool → Live → Bool
is_in at shown live =
    is_level_key (level_key_of (terms_of live.order)) at && is_same_bool live.order.shown shown

-- the keys of orders
abbrev pub keys_of : List Live → List ℕ
keys_of orders = map (λ live. live.key.0) orders

-- the keys of a queue, in time order
abbrev pub queue : LevelKey → Bool → List Live → List ℕ
queue at shown orders = keys_of (filter (is_in at shown) orders)

-- the number of the order with a key: that of an order that came later is greater
abbrev pub number_in : Slab LinkedOrder → ℕ → ℕ
number_in linked_orders key = unwrap_or (number_at linked_orders key) 0

-- the rank of an order among all, as one number: by its level, shown before hidden, and by its own number
abbrev pub rank_at : LevelKey → (shown : Bool) → (number : ℕ) → ℕ
rank_at at shown number =
    level_key_number at * 2 ^ 64 + ((if shown then 0 else 2 ^ 63) + number)

-- the rank of a live order
abbrev pub rank_of : (number : ℕ → ℕ) → Live → ℕ
rank_of number live = rank_at (level_key_of (terms_of live.order)) live.order.shown (number live.key.0)

-- the fewest shares for which an order may be executed
abbrev pub least_of : Order → ℕ
least_of x = max 1 (min x.minimum x.shares)

-- a conditional order as the ranked blocks hold it
abbrev pub entry_of : (number : ℕ → ℕ) → Live → Entry
entry_of number live =
    record {
      rank = rank_of number live;
      key = live.key.0;
      least = least_of live.order;
      shares = live.order.shares;
    }

-- the order is conditional, and has this rank
abbrev pub is_waiting_at : (number : ℕ → ℕ) → (rank : ℕ) → Live → Bool
is_waiting_at number rank live = is_conditional live.order && (rank_of number live == rank)

-- the entry of the conditional order that has this rank
abbrev pub entry_at : (number : ℕ → ℕ) → (rank : ℕ) → List Live → Option Entry
entry_at number rank orders =
    option_map (entry_of number) (find (is_waiting_at number rank) orders)

-- the entries are those of the conditional orders
abbrev pub AreIndexed : (number : ℕ → ℕ) → List Entry → List Live → Type 0
AreIndexed number entries orders =
    (rank : ℕ) → find (has_rank rank) entries ≡ entry_at number rank orders

-- ranked blocks, with room only if others have room, too
abbrev pub with_room : Ranked → Ranked → Ranked
with_room ranked others =
    record { entries = ranked.entries; has_room = ranked.has_room && others.has_room }

-- the numbers rise, and the next is above them all
abbrev pub AreNumbered : (number : ℕ → ℕ) → (next : ℕ) → List Live → Type 0
AreNumbered number next [] = Unit {0}
AreNumbered number next (x ∷ xs) =
    AllByRecursion (λ y. number x.key.0 < number y.key.0) xs × (number x.key.0 < next)
    × AreNumbered number next xs

-- the orders that are not conditional
abbrev pub unconditional : List Live → List Live
unconditional orders = filter (λ live. not (is_conditional live.order)) orders

-- an order that is not conditional has no more shares than its level says, if there is the level
abbrev pub IsSized : LevelStore → Live → Type 0
IsSized levels live = is_conditional live.order ≡ false
    → IfSome (level_at levels (level_key_of (terms_of live.order)))
    (λ level. live.order.shares ≤ level.most)

-- so has each of these
abbrev pub AreSized : LevelStore → List Live → Type 0
AreSized levels orders = AllByRecursion (IsSized levels) orders

-- the live orders that stand in a queue of a level, in time order
abbrev pub line : LevelKey → (shown : Bool) → List Live → List Live
line at shown orders = filter (is_in at shown) (unconditional orders)

-- none of these has more shares
abbrev pub HaveAtMost : (most : ℕ) → List Live → Type 0
HaveAtMost most orders = AllByRecursion (λ live. live.order.shares ≤ most) orders

-- the slab, the levels, the links and the ranked blocks hold these live orders and no others: an order that is not
-- conditional stands in the queue of its level, a conditional one by its rank
pub record IsBook (linked_orders : Slab LinkedOrder) (levels : LevelStore) (time : Ends)
    (reserved : Option Terms) (retained : Option LevelKey) (next : ℕ) (ranked : Ranked)
    (orders : List Live) : Type 0 where
  pub differ : KeysDiffer orders
  pub stored : (key : ℕ) → option_map (λ linked_order. linked_order.order) (get linked_orders key) ≡ order_of key orders
  pub in_time : IsLinked (time_links linked_orders) time (keys_of orders)
  pub in_level : (at : LevelKey) (shown : Bool)
      → IsLinked (queue_links linked_orders) (ends_in shown (level_at levels at))
      (queue at shown (unconditional orders))
  pub priced : AllByRecursion (λ live. live.order.price ≤ greatest_price) orders
  pub sized : AreSized levels orders
  pub numbered : AreNumbered (number_in linked_orders) next orders
  pub indexed : AreIndexed (number_in linked_orders) ranked.entries orders
  pub small : next < 2 ^ 63
  pub room : (terms : Terms) → reserved ≡ Some terms
      → HasRoomFor linked_orders 1 × IsSome (level_at levels (level_key_of terms))
      × (retained ≡ Some (level_key_of terms)) × (ranked.has_room ≡ true) × (next + 1 < 2 ^ 63)
  pub filled : (at : LevelKey) (level : Level) → level_at levels at ≡ Some level
      → IsEmptyLevel level
      → retained ≡ Some at

-- what contracts see of a book by levels: a book, and the linked orders, which have the number of each order
pub record LevelContents : Type 0 where
  pub orders : List Live
  pub reserved : Option Terms
  pub linked_orders : Slab LinkedOrder

-- the order at a linked order, and those after it
abbrev pub step : (Option ℕ → List Live) → ℕ → Option LinkedOrder → List Live
step rest key None = []
step rest key (Some linked_order) =
    record { key = record { 0 = key }; order = linked_order.order } ∷ rest linked_order.time.after

-- the orders met on the way along the links of time
abbrev pub walk : ℕ → Slab LinkedOrder → Option ℕ → List Live
walk zero linked_orders next = []
walk (suc n) linked_orders None = []
walk (suc n) linked_orders (Some key) = step (walk n linked_orders) key (get linked_orders key)

-- all orders in time, from the first on
abbrev pub walked : Slab LinkedOrder → Ends → List Live
walked linked_orders time = walk (length linked_orders.slots) linked_orders time.first

-- the level keys that incoming terms cross: those of the other side up to the distance of the limit
abbrev pub contra : Terms → ℕ → LevelKey
contra terms distance =
    record { locate = terms.locate; buy = not (is_buy terms.side); distance = distance }

-- the distance of the worst price at which incoming terms cross
abbrev pub limit_of : Terms → ℕ
limit_of terms = if is_buy terms.side then terms.price else above_prices - terms.price

-- the least rank that an order may have that crosses incoming terms, and the greatest
abbrev pub first_rank : Terms → ℕ
first_rank terms = rank_at (contra terms 0) true 0

abbrev pub last_rank : Terms → ℕ
last_rank terms = rank_at (contra terms (limit_of terms)) false (2 ^ 63 - 1)
