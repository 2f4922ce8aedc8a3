-- Which resting orders an incoming order executes, and for how many shares.
use Rattle.std.specs.Prelude.{ℕ, zero, suc, ◌-◌, min, Bool, true, false, if◌then◌else◌, ◌&&◌, nat_lt, List, [], ◌∷◌, ◌++◌, Option, Some, None}
use Rattle.hx_book.specs.declared.order.Order.{Order}
use Rattle.hx_book.specs.declared.order.Live.{Live}
use Rattle.hx_book.specs.declared.order.Terms.{Terms}
use Rattle.hx_book.specs.Book.{terms_at, crosses, outranks, qualifies as book_qualifies}
use Rattle.hx_match.specs.declared.fills.Incoming.{Incoming}

-- the stock, side and price of an incoming order
abbrev pub terms : Incoming → Terms
terms incoming = terms_at incoming.locate incoming.side incoming.price

-- with r open shares of the incoming order, x qualifies for an execution of its minimum
abbrev pub qualifies : Incoming → (left : ℕ) → Order → Bool
qualifies incoming r x = book_qualifies r incoming.minimum x

-- x crosses and qualifies
abbrev pub passes : Incoming → (left : ℕ) → Order → Bool
passes incoming r x = crosses (terms incoming) x && qualifies incoming r x

-- What is matched is a list of entries that each hold an order, such as orders under keys: `order_of` gives
-- an entry's order, and `cut` the entry with other open shares.

-- an entry of a list, with those before it and those after it
pub record PositionOf (X : Type 0) : Type 0 where
  pub front : List X
  pub order : X
  pub back : List X

-- the position in the list that x begins
abbrev pub later : {X : Type 0} → X → PositionOf X → PositionOf X
later x p = record { front = x ∷ p.front; order = p.order; back = p.back }

-- x, which passes or not and which xs follow, against the first by rank of xs
abbrev pub first_of_entries : {X : Type 0} → (X → Order) → Incoming → X → List X → Bool
    → Option (PositionOf X) → Option (PositionOf X)
first_of_entries order_of incoming x xs false None = None
first_of_entries order_of incoming x xs false (Some p) = Some (later x p)
first_of_entries order_of incoming x xs true None =
    Some (record { front = []; order = x; back = xs })
first_of_entries order_of incoming x xs true (Some p) =
    if outranks incoming.side (order_of p.order) (order_of x) then Some (later x p)
    else Some (record { front = []; order = x; back = xs })

-- the first by rank of the entries whose orders cross and qualify
abbrev pub first_entry : {X : Type 0} → (X → Order) → Incoming → (left : ℕ) → List X
    → Option (PositionOf X)
first_entry order_of incoming r [] = None
first_entry order_of incoming r (x ∷ xs) =
    first_of_entries order_of incoming x xs (passes incoming r (order_of x))
    (first_entry order_of incoming r xs)

-- the entry with f open shares less, or none if none are left
abbrev pub less_of : {X : Type 0} → (X → Order) → (X → ℕ → X) → X → ℕ → List X
less_of order_of cut x f =
    if nat_lt f (order_of x).shares then cut x ((order_of x).shares - f) ∷ [] else []

-- an execution: the resting entry as it stood before, and the shares
pub record FillOf (X : Type 0) : Type 0 where
  pub order : X
  pub shares : ℕ

-- the executions, the list that stays, and the shares that are left
pub record MatchedOf (X : Type 0) : Type 0 where
  pub fills : List (FillOf X)
  pub rest : List X
  pub left : ℕ

-- the same with an execution before
abbrev pub after_fill : {X : Type 0} → FillOf X → MatchedOf X → MatchedOf X
after_fill fill m = record { fills = fill ∷ m.fills; rest = m.rest; left = m.left }

-- with r open shares and the first by rank: it is executed, and `next` says what follows with the shares and the list
-- that are left
abbrev pub matched_by : {X : Type 0} → (X → Order) → (X → ℕ → X) → (ℕ → List X → MatchedOf X)
    → (left : ℕ) → List X → Option (PositionOf X) → MatchedOf X
matched_by order_of cut next r xs None = record { fills = []; rest = xs; left = r }
matched_by order_of cut next r xs (Some p) =
    let f = min r (order_of p.order).shares in
    after_fill (record { order = p.order; shares = f })
    (next (r - f) (p.front ++ (less_of order_of cut p.order f ++ p.back)))

-- as long as an entry passes, the first by rank is executed. Each execution takes a share, so there are at most n if r
-- is n
unfoldable pub matched_entries : {X : Type 0} → (X → Order) → (X → ℕ → X) → (n : ℕ) → Incoming
    → (left : ℕ) → List X → MatchedOf X
matched_entries order_of cut zero incoming r xs = record { fills = []; rest = xs; left = r }
matched_entries order_of cut (suc n) incoming r xs =
    matched_by order_of cut (matched_entries order_of cut n incoming) r xs
    (first_entry order_of incoming r xs)

-- The same of a list of orders.

abbrev pub Position : Type 0
Position = PositionOf Order

abbrev pub Execution : Type 0
Execution = FillOf Order

abbrev pub Matched : Type 0
Matched = MatchedOf Order

abbrev pub itself : Order → Order
itself x = x

-- the order with n open shares
abbrev pub with_shares : Order → ℕ → Order
with_shares x n = record x { shares = n }

-- the first by rank of the orders that cross and qualify
abbrev pub first_by_rank : Incoming → (left : ℕ) → List Order → Option Position
first_by_rank incoming r xs = first_entry itself incoming r xs

-- the executions of an incoming order with r open shares against these orders, in time order
unfoldable pub matched : Incoming → (left : ℕ) → List Order → Matched
matched incoming r xs = matched_entries itself with_shares r incoming r xs

-- The same of orders under keys.

-- the order under its key
abbrev pub order_in : Live → Order
order_in live = live.order

-- the order with n open shares, under the same key
abbrev pub cut_live : Live → ℕ → Live
cut_live live n = record live { order = with_shares live.order n }

-- the executions of an incoming order with its open shares against the orders of a book
abbrev pub matched_live : Incoming → List Live → MatchedOf Live
matched_live incoming orders =
    matched_entries order_in cut_live incoming.shares incoming incoming.shares orders
