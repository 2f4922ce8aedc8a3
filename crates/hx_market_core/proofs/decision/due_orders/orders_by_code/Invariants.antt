use Rattle.std.proofs.Common.{◌≡◌, ◌++◌, length, true}
use Rattle.std.specs.Option.{IfSome}
use Rattle.std.specs.List.{filter}
use Rattle.hx_book.specs.Book.{has_key, KeysDiffer}
use Rattle.hx_rules.specs.Hours.{ends_by_code}
use Rattle.hx_market_core.proofs.BookWalks.{later}
use Rattle.hx_market_core.proofs.decision.due_orders.orders_by_code.Given as goal

-- those that end so far, and those after them, are all
abbrev pub invariant-walk : goal.invariant-walk
invariant-walk g l =
    let orders = g.B.Book.orders l.book in
    record {
      so_far : l.orders.items ++ filter (λ x. ends_by_code l.code x.order) (later l.after orders) ≡ filter (λ x. ends_by_code l.code x.order) orders;
      live : IfSome l.after (λ key. has_key key.0 orders ≡ true);
      differ : IfSome l.after (λ key. KeysDiffer orders);
    }

abbrev pub decreases-walk : goal.decreases-walk
decreases-walk g l = length (later l.after (g.B.Book.orders l.book))
