use Rattle.std.proofs.Common.{◌≡◌, ◌≤◌, slice_get, vec_capacity, refl, sym, ap, ◌∙◌, subst}
use Rattle.std.specs.Option.{IfSome, option_map, is_some}
use Rattle.slab.specs.Slab.{get, slab_len}
use Rattle.hx_levels.specs.declared.level_book.linked_orders.LinkedOrder.{LinkedOrder}
use Rattle.hx_levels.specs.declared.level_book.linked_orders.LinkedOrders.TheInside.{Inside}
use Rattle.hx_levels.specs.contracts.level_book.linked_orders.LinkedOrders.{the_view}
use Rattle.hx_levels.specs.OrderLinks.{linked_order_at, less_at}
use Rattle.hx_levels.proofs.Joined.{links_below, linked_order-joined, get-joined, less-joined, none-less, len-reordered}
use Rattle.hx_levels.proofs.level_book.linked_orders.take_shares.Goals as goal
use Rattle.hx_levels.proofs.level_book.linked_orders.take_shares.Goals.{in-Some, in_default}

pub overflow_sub-order : goal.overflow_sub-order
overflow_sub-order c =
    let i = c.linked_orders.inside in
    let there = sym c.in-Some.ensures.value in
    let links = links_below i.links.items c.args.key (c.linked_orders.invariant c.args.key (ap is_some there)) in
    let linked_order = linked_order-joined i.orders i.links.items (vec_capacity i.links) c.args.key c.in-Some.order.now links.0 there links.1 in
    subst (λ o. IfSome o (λ (n : LinkedOrder). c.args.by ≤ n.order.shares)) (ap (λ s. get s c.args.key) (sym c.linked_orders.view_is) ∙ linked_order) c.requires

pub returns-clause-changed : goal.returns-clause-changed
returns-clause-changed c = λ k.
    let i = c.linked_orders.inside in
    let indices = vec_capacity i.links in
    let P : Inside → Type 0 = λ v. get (the_view v) k ≡ option_map (less_at c.args.key c.args.by k) (get (the_view i) k) in
    elim c.match-get_mut.branch [
      | in-Some w ↦ subst P (sym w.linked_orders-inside-is)
          (less-joined i.orders i.links.items indices c.args.key w.in-Some.order.now _ (sym w.in-Some.ensures.value) c.args.by refl k)
      | in_default w ↦ subst P (sym w.linked_orders-inside-is)
          (none-less (the_view i) c.args.key c.args.by (get-joined i.orders.slots i.links.items c.args.key ∙ ap (λ o. linked_order_at o (slice_get i.links.items c.args.key)) (sym w.in_default.ensures.value)) k)
    ]
    ∙ ap (λ s. option_map (less_at c.args.key c.args.by k) (get s k)) c.linked_orders.view_is

pub returns-clause-len : goal.returns-clause-len
returns-clause-len c =
    let i = c.linked_orders.inside in
    let P : Inside → Type 0 = λ v. slab_len (the_view v) ≡ slab_len (the_view i) in
    elim c.match-get_mut.branch [
      | in-Some w ↦ subst P (sym w.linked_orders-inside-is)
          (len-reordered i.orders i.links.items (vec_capacity i.links) c.args.key w.in-Some.order.now _ (sym w.in-Some.ensures.value) c.linked_orders.invariant)
      | in_default w ↦ subst P (sym w.linked_orders-inside-is) refl
    ]
    ∙ ap slab_len c.linked_orders.view_is
