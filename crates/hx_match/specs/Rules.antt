-- What the definition of the executions promises.
use Rattle.std.specs.Prelude.{◌≡◌, ℕ, true, false, List, ◌∷◌, ◌++◌, Option, Some, None, map}
use Rattle.std.specs.List.{AllByRecursion}
use Rattle.hx_book.specs.declared.order.Order.{Order}
use Rattle.hx_book.specs.declared.order.Live.{Live}
use Rattle.hx_book.specs.Book.{outranks, crosses, lives, order_of, KeysDiffer, without}
use Rattle.hx_match.specs.declared.fills.Incoming.{Incoming}
use Rattle.hx_match.specs.declared.fills.Fill.{Fill}
use Rattle.hx_match.specs.Executing.{fills_of, AreGood, done_by, left_by}
use Rattle.hx_match.specs.Matching.{terms, matched_live, Position, MatchedOf, Matched, passes, first_by_rank, matched, matched_entries, itself, with_shares, order_in, cut_live}

-- of the orders that pass, the one at the position is before all others: it outranks those before it in the list, and
-- none after it outranks it
pub record IsBeforeAll (incoming : Incoming) (r : ℕ) (p : Position) : Type 0 where
  pub itself : passes incoming r p.order ≡ true
  pub front : AllByRecursion (λ y. passes incoming r y ≡ true
      → outranks incoming.side p.order y ≡ true) p.front
  pub back : AllByRecursion (λ y. passes incoming r y ≡ true
      → outranks incoming.side y p.order ≡ false) p.back

-- the choice is right: none if none passes, else the one before all others
abbrev pub IsRightChoice : Incoming → ℕ → List Order → Option Position → Type 0
IsRightChoice incoming r xs None = AllByRecursion (λ y. passes incoming r y ≡ false) xs
IsRightChoice incoming r xs (Some p) =
    (xs ≡ p.front ++ (p.order ∷ p.back)) × IsBeforeAll incoming r p

-- what is executed next is the order that is before all others that cross and qualify, as long as there is one
abbrev pub FirstIsRight : Type 0
FirstIsRight =
    (incoming : Incoming) (r : ℕ) (xs : List Order)
    → IsRightChoice incoming r xs (first_by_rank incoming r xs)

-- when the executions are over, no order that stays crosses and qualifies for the shares that are left
abbrev pub NoneIsLeft : Type 0
NoneIsLeft =
    (incoming : Incoming) (r : ℕ) (xs : List Order)
    → AllByRecursion (λ y. passes incoming (matched incoming r xs).left y ≡ false)
    (matched incoming r xs).rest

-- what was matched of entries, as what was matched of their orders
unfoldable pub orders_of_matched : {X : Type 0} → (X → Order) → MatchedOf X → Matched
orders_of_matched order_of m =
    record {
      fills = map (λ f. record { order = order_of f.order; shares = f.shares }) m.fills;
      rest = map order_of m.rest;
      left = m.left;
    }

-- the executions of orders under keys are those of the orders
abbrev pub MatchedOfMap : Type 0
MatchedOfMap =
    (n : ℕ) (incoming : Incoming) (r : ℕ) (orders : List Live)
    → matched_entries itself with_shares n incoming r (lives orders)
    ≡ orders_of_matched order_in (matched_entries order_in cut_live n incoming r orders)

-- the fills, by key, are the executions of the incoming order against the orders of a book, and `left` shares of it are
-- left: they can be carried out one after another, what they execute is what is matched of the orders, and so are the
-- orders that then stay
pub record AreFills (incoming : Incoming) (orders : List Live) (fills : List Fill) (left : ℕ)
    : Type 0 where
  pub good : AreGood fills orders
  pub done : done_by fills orders ≡ (matched incoming incoming.shares (lives orders)).fills
  pub rest : lives (left_by fills orders) ≡ (matched incoming incoming.shares (lives orders)).rest
  pub remains : left ≡ (matched incoming incoming.shares (lives orders)).left

-- an order that does not cross is not met: without it the fills are the same, and are the executions against the others
abbrev pub UncrossedIsNotMet : Type 0
UncrossedIsNotMet =
    (incoming : Incoming) (key : ℕ) (x : Order) (orders : List Live)
    → KeysDiffer orders → order_of key orders ≡ Some x → crosses (terms incoming) x ≡ false
    → AreFills incoming (without key orders) (fills_of incoming orders)
    (matched_live incoming orders).left
