-- What a walk along the orders of a book by levels looks for.
use Rattle.std.specs.Prelude.{◌≡◌, ℕ, ◌+◌, ◌<◌, ◌&&◌, nat_le, Bool, false, List, Option, Some, None}
use Rattle.std.specs.List.{AllByRecursion, find}
use Rattle.std.specs.Option.{option_map}
use Rattle.hx_book.specs.declared.order.Key.{Key}
use Rattle.hx_book.specs.declared.order.Live.{Live}
use Rattle.hx_book.specs.declared.order.Terms.{Terms}
use Rattle.hx_book.specs.Book.{is_under, is_conditional, rest_after}
use Rattle.hx_levels.specs.LevelBook.{rank_of, least_of, first_rank, last_rank}

-- the rank after that of a live order
abbrev pub rank_past : (number : ℕ → ℕ) → Option Live → ℕ
rank_past number None = 0
rank_past number (Some live) = rank_of number live + 1

-- the least rank of the orders after the one with the key, or of all that cross the terms
abbrev pub rank_after : (number : ℕ → ℕ) → Terms → Option Key → List Live → ℕ
rank_after number terms None orders = first_rank terms
rank_after number terms (Some key) orders = rank_past number (find (is_under key.0) orders)

-- the rank of a live order
abbrev pub rank_here : (number : ℕ → ℕ) → Option Live → ℕ
rank_here number None = 0
rank_here number (Some live) = rank_of number live

-- the rank of the order with the key, or the greatest of those that cross the terms
abbrev pub rank_until : (number : ℕ → ℕ) → Terms → Option Key → List Live → ℕ
rank_until number terms None orders = last_rank terms
rank_until number terms (Some key) orders = rank_here number (find (is_under key.0) orders)

-- the order has this rank or a later one, and at least `least` open shares
abbrev pub is_from : (number : ℕ → ℕ) → (rank least : ℕ) → Live → Bool
is_from number rank least live =
    nat_le rank (rank_of number live) && nat_le least live.order.shares

-- the order is conditional, `left` shares are enough for it, and it has at least `least` open shares
abbrev pub is_waiting : (left least : ℕ) → Live → Bool
is_waiting left least live =
    is_conditional live.order
    && (nat_le (least_of live.order) left && nat_le least live.order.shares)

-- such an order, and it has this rank or an earlier one
abbrev pub is_waiting_until : (number : ℕ → ℕ) → (rank left least : ℕ) → Live → Bool
is_waiting_until number rank left least live =
    nat_le (rank_of number live) rank && is_waiting left least live

-- the next order of a line after the one with the key, or the first, of those that pass a test: all with at least
-- `least` open shares do
pub record IsNextLarge (after : Option Key) (least : ℕ) (line : List Live)
    (result : Option Key) : Type 0 where
  pub test : Live → Bool
  pub small : AllByRecursion (λ live. test live ≡ false → live.order.shares < least)
      (rest_after after line)
  pub next : result ≡ option_map (λ live. live.key) (find test (rest_after after line))
