use Rattle.std.proofs.Common.{◌≡◌, ◌++◌, length, true}
use Rattle.std.specs.Option.{IfSome}
use Rattle.hx_book.specs.Book.{lives, has_key}
use Rattle.hx_market_core.proofs.BookWalks.{later}
use Rattle.hx_market_core.proofs.live_orders.list_orders.Given as goal

-- the orders so far, and those after them, are all
abbrev pub invariant-walk : goal.invariant-walk
invariant-walk g l =
    let orders = g.B.Book.orders l.book in
    record { so_far : l.orders.items ++ lives (later l.after orders) ≡ lives orders; live : IfSome l.after (λ key. has_key key.0 orders ≡ true) }

abbrev pub decreases-walk : goal.decreases-walk
decreases-walk g l = length (later l.after (g.B.Book.orders l.book))
