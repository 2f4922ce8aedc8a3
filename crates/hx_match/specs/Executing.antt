-- The fills of a plan, by key: the executions that they are, one after another.
use Rattle.std.specs.Prelude.{◌≡◌, ℕ, ◌<◌, ◌≤◌, nat_lt, List, [], ◌∷◌, Option, Some, None, if◌then◌else◌, map}
use Rattle.hx_book.specs.declared.order.Order.{Order}
use Rattle.hx_book.specs.declared.order.Live.{Live}
use Rattle.hx_book.specs.Book.{order_of, reduced, without}
use Rattle.hx_match.specs.declared.fills.Fill.{Fill}
use Rattle.hx_match.specs.declared.fills.Incoming.{Incoming}
use Rattle.hx_match.specs.Matching.{FillOf, Execution, matched_live}

-- an execution by key: the order's key, the shares, and the order's price
abbrev pub fill_of : FillOf Live → Fill
fill_of f = record { key = f.order.key; shares = f.shares; price = f.order.order.price }

-- the executions of an incoming order against the orders of a book, by key
abbrev pub fills_of : Incoming → List Live → List Fill
fills_of incoming orders = map fill_of (matched_live incoming orders).fills

-- the list after `shares` shares of x, which is under the key, are executed: they are off, or x is out
abbrev pub taken : (key shares : ℕ) → Order → List Live → List Live
taken key shares x orders =
    if nat_lt shares x.shares then reduced key shares orders else without key orders

-- the first of the executions, by the order that stands under its key, and those after it
abbrev pub done_with : (List Live → List Execution) → Fill → List Live → Option Order
    → List Execution
done_with next fill orders None = []
done_with next fill orders (Some x) =
    record { order = x; shares = fill.shares } ∷ next (taken fill.key.0 fill.shares x orders)

-- the executions that the fills are, each of the order that stands under its key in the list as it is then
abbrev pub done_by : List Fill → List Live → List Execution
done_by [] orders = []
done_by (fill ∷ fills) orders = done_with (done_by fills) fill orders (order_of fill.key.0 orders)

-- the list after the first fill, and those after it
abbrev pub left_with : (List Live → List Live) → Fill → List Live → Option Order → List Live
left_with next fill orders None = orders
left_with next fill orders (Some x) = next (taken fill.key.0 fill.shares x orders)

-- the list after the fills
abbrev pub left_by : List Fill → List Live → List Live
left_by [] orders = orders
left_by (fill ∷ fills) orders = left_with (left_by fills) fill orders (order_of fill.key.0 orders)

-- the first fill is of a live order, for one to all of its open shares, at its price, and so on
abbrev pub IsGoodWith : (List Live → Type 0) → Fill → List Live → Option Order → Type 0
IsGoodWith next fill orders None = ⊥
IsGoodWith next fill orders (Some x) =
    (0 < fill.shares) × (fill.shares ≤ x.shares) × (fill.price ≡ x.price)
    × next (taken fill.key.0 fill.shares x orders)

-- each fill in turn is of a live order of the list as it is then, for one to all of its open shares, at its price
abbrev pub AreGood : List Fill → List Live → Type 0
AreGood [] orders = Unit {0}
AreGood (fill ∷ fills) orders = IsGoodWith (AreGood fills) fill orders (order_of fill.key.0 orders)
