use Rattle.std.proofs.Common.{◌≡◌, ◌++◌, ◌∷◌, [], List, Some, length, sym, ap, ◌∙◌, arith, append_assoc}
use Rattle.std.specs.Option.{option_copied}
use Rattle.hx_book.specs.declared.order.Order.{Order}
use Rattle.hx_book.specs.declared.order.Live.{Live}
use Rattle.hx_book.specs.Book.{lives, order_of}
use Rattle.hx_market_core.proofs.BookWalks.{later, IsStep, is_step}
use Rattle.hx_market_core.proofs.live_orders.list_orders.Goals as goal

pub walk-smaller-in_ok-push : goal.walk-smaller-in_ok-push
walk-smaller-in_ok-push g c =
    let orders = g.B.Book.orders c.args.book.now in
    let found : order_of c.in-Some.key.0 orders ≡ Some c.in-Some-get.order.now = sym c.get.ensures.exact ∙ ap option_copied c.in-Some-get.is in
    let s : IsStep c.walk.after orders c.in-Some.key c.in-Some-get.order.now = is_step c.walk.after orders c.in-Some.key c.in-Some-get.order.now c.get.ensures.keys (sym c.next_in_time.ensures.exact ∙ c.in-Some.is) found in
    let a : length (later (Some c.in-Some.key) orders) ≡ length s.rest = ap (λ (l : List Live). length l) s.after_is in
    let b = s.shorter in omega arith

pub walk-preserved-in_ok-push : goal.walk-preserved-in_ok-push
walk-preserved-in_ok-push g c =
    let orders = g.B.Book.orders c.args.book.now in
    let x : Order = c.in-Some-get.order.now in
    let found : order_of c.in-Some.key.0 orders ≡ Some x = sym c.get.ensures.exact ∙ ap option_copied c.in-Some-get.is in
    let s : IsStep c.walk.after orders c.in-Some.key x = is_step c.walk.after orders c.in-Some.key x c.get.ensures.keys (sym c.next_in_time.ensures.exact ∙ c.in-Some.is) found in
    record {
      so_far =
          ap (λ (l : List Order). l ++ lives (later (Some c.in-Some.key) orders)) c.in_ok-push.ensures.items
          ∙ ap (λ (l : List Live). (c.walk.orders.items ++ x ∷ []) ++ lives l) s.after_is
          ∙ append_assoc c.walk.orders.items (x ∷ []) (lives s.rest)
          ∙ ap (λ (l : List Order). c.walk.orders.items ++ l) (sym s.before)
          ∙ c.walk.invariant.so_far;
      live = c.in-Some.ensures.live;
    }
