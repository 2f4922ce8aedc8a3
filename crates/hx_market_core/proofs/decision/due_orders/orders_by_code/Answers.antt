use Rattle.std.proofs.Common.{◌≡◌, ◌++◌, ◌∷◌, [], List, Some, length, sym, ap, ◌∙◌, arith, append_assoc}
use Rattle.std.specs.Option.{option_copied}
use Rattle.std.specs.List.{filter}
use Rattle.hx_book.specs.declared.order.Order.{Order}
use Rattle.hx_book.specs.declared.order.Live.{Live}
use Rattle.hx_book.specs.Book.{order_of}
use Rattle.hx_rules.specs.Hours.{ends_by_code}
use Rattle.hx_market_core.proofs.BookWalks.{later, IsNext, is_next}
use Rattle.hx_market_core.proofs.RemovedOrders.{filter-step}
use Rattle.hx_market_core.proofs.decision.due_orders.orders_by_code.Goals as goal

pub walk-smaller-in_ok-keep_ending : goal.walk-smaller-in_ok-keep_ending
walk-smaller-in_ok-keep_ending g c =
    let orders = g.B.Book.orders c.args.book.now in
    let x : Order = c.in-Some-get.order.now in
    let found : order_of c.in-Some.key.0 orders ≡ Some x = sym c.get.ensures.exact ∙ ap option_copied c.in-Some-get.is in
    let s : IsNext c.walk.after orders c.in-Some.key x = is_next c.walk.after orders c.in-Some.key x c.get.ensures.keys (sym c.next_in_time.ensures.exact ∙ c.in-Some.is) found in
    let a : length (later (Some c.in-Some.key) orders) ≡ length s.rest = ap (λ (l : List Live). length l) s.after_is in
    let b = s.shorter in omega arith

pub walk-preserved-in_ok-keep_ending : goal.walk-preserved-in_ok-keep_ending
walk-preserved-in_ok-keep_ending g c =
    let orders = g.B.Book.orders c.args.book.now in
    let x : Order = c.in-Some-get.order.now in
    let live : Live = record { key = c.in-Some.key; order = x } in
    let found : order_of c.in-Some.key.0 orders ≡ Some x = sym c.get.ensures.exact ∙ ap option_copied c.in-Some-get.is in
    let s : IsNext c.walk.after orders c.in-Some.key x = is_next c.walk.after orders c.in-Some.key x c.get.ensures.keys (sym c.next_in_time.ensures.exact ∙ c.in-Some.is) found in
    record {
      so_far =
          ap (λ (l : List Live). l ++ filter (λ y. ends_by_code c.args.code y.order) (later (Some c.in-Some.key) orders)) c.in_ok-keep_ending.ensures
          ∙ ap (λ (l : List Live). (c.walk.orders.items ++ filter (λ y. ends_by_code c.args.code y.order) (live ∷ [])) ++ filter (λ y. ends_by_code c.args.code y.order) l) s.after_is
          ∙ append_assoc c.walk.orders.items (filter (λ y. ends_by_code c.args.code y.order) (live ∷ [])) (filter (λ y. ends_by_code c.args.code y.order) s.rest)
          ∙ ap (λ (l : List Live). c.walk.orders.items ++ l) (filter-step (λ y. ends_by_code c.args.code y.order) live s.rest ∙ ap (λ (l : List Live). filter (λ y. ends_by_code c.args.code y.order) l) (sym s.before))
          ∙ c.walk.invariant.so_far;
      live = c.in-Some.ensures.live;
      differ = c.get.ensures.keys;
    }
