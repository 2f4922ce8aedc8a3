-- The prices of a stock in a book, and what stands at each.
use Rattle.std.specs.Prelude.{◌≡◌, ℕ, suc, ◌+◌, ◌≤◌, ◌==◌, ◌&&◌, nat_lt, if◌then◌else◌, Bool, ◌⊎◌, List, [], ◌∷◌, Option, Some, None}
use Rattle.std.specs.List.{AllByRecursion, filter}
use Rattle.hx_itch.specs.declared.shown_order.ShownOrder.{ShownOrder}

-- whether an order is of this side of this stock
abbrev pub is_on : (locate side : ℕ) → ShownOrder → Bool
is_on locate side x = x.locate == locate && x.side == side

-- the prices of the orders of a stock's side, the oldest order's first
abbrev pub prices : (locate side : ℕ) → List ShownOrder → List ℕ
prices locate side [] = []
prices locate side (x ∷ book) =
    if is_on locate side x then x.price ∷ prices locate side book else prices locate side book

-- whether an order is of this side of this stock, at this price
abbrev pub is_at : (locate side price : ℕ) → ShownOrder → Bool
is_at locate side price x = is_on locate side x && x.price == price

-- how many orders of a stock's side stand at a price
abbrev pub orders_at : (locate side price : ℕ) → List ShownOrder → ℕ
orders_at locate side price [] = 0
orders_at locate side price (x ∷ book) =
    if is_at locate side price x
    then suc (orders_at locate side price book)
    else orders_at locate side price book

-- and how many shares they have open
abbrev pub shares_at : (locate side price : ℕ) → List ShownOrder → ℕ
shares_at locate side price [] = 0
shares_at locate side price (x ∷ book) =
    if is_at locate side price x
    then x.shares + shares_at locate side price book
    else shares_at locate side price book

-- ---- the best of some prices

abbrev pub IsAmong : ℕ → List ℕ → Type 0
IsAmong p [] = ⊥
IsAmong p (q ∷ ps) = (p ≡ q) ⊎ IsAmong p ps

-- the highest of these prices, none if there is no price
abbrev pub IsHighest : List ℕ → Option ℕ → Type 0
IsHighest ps None = ps ≡ []
IsHighest ps (Some p) = IsAmong p ps × AllByRecursion (λ q. q ≤ p) ps

-- the lowest of these prices, none if there is no price
abbrev pub IsLowest : List ℕ → Option ℕ → Type 0
IsLowest ps None = ps ≡ []
IsLowest ps (Some p) = IsAmong p ps × AllByRecursion (λ q. p ≤ q) ps

-- those of the prices that are below a limit, or all
abbrev pub below : (limit : Option ℕ) → List ℕ → List ℕ
below None ps = ps
below (Some limit) ps = filter (λ p. nat_lt p limit) ps

-- those of the prices that are above a limit, or all
abbrev pub above : (limit : Option ℕ) → List ℕ → List ℕ
above None ps = ps
above (Some limit) ps = filter (λ p. nat_lt limit p) ps
