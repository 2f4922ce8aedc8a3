use Rattle.std.proofs.Common.{◌≡◌, vec_capacity, refl, sym, ap, ◌∙◌, subst, arith}
use Rattle.std.specs.Option.{option_map}
use Rattle.slab.specs.Slab.{get, slab_len}
use Rattle.hx_levels.specs.declared.level_book.linked_orders.LinkedOrders.TheInside.{Inside}
use Rattle.hx_levels.specs.contracts.level_book.linked_orders.LinkedOrders.{the_view}
use Rattle.hx_levels.specs.OrderLinks.{with_links}
use Rattle.hx_levels.proofs.Joined.{linked-own, linked-others, none-past, len_set}
use Rattle.hx_levels.proofs.level_book.linked_orders.set_links.Goals as goal
use Rattle.hx_levels.proofs.level_book.linked_orders.set_links.Goals.{in-Some, in_default}

pub returns-clause-own : goal.returns-clause-own
returns-clause-own c =
    let i = c.linked_orders.inside in
    let P : Inside → Type 0 = λ v. get (the_view v) c.args.key ≡ option_map (with_links c.args.both) (get (the_view i) c.args.key) in
    elim c.match-get_mut.branch [
      | in-Some w ↦
          let l = w.in-Some.ensures.variant.0 refl in
          subst P (sym w.linked_orders-inside-is) (linked-own i.orders.slots i.links.items c.args.key c.args.both (omega (arith, i.links.ok.0)))
      | in_default w ↦
          let none = none-past i.orders.slots i.links.items c.args.key w.in_default.ensures.item.3 in
          subst P (sym w.linked_orders-inside-is) (none ∙ ap (option_map (with_links c.args.both)) (sym none))
    ]
    ∙ ap (λ s. option_map (with_links c.args.both) (get s c.args.key)) c.linked_orders.view_is

pub returns-clause-others : goal.returns-clause-others
returns-clause-others c = λ k n.
    let i = c.linked_orders.inside in
    let P : Inside → Type 0 = λ v. get (the_view v) k ≡ get (the_view i) k in
    elim c.match-get_mut.branch [
      | in-Some w ↦ subst P (sym w.linked_orders-inside-is) (linked-others i.orders.slots i.links.items c.args.key c.args.both k n)
      | in_default w ↦ subst P (sym w.linked_orders-inside-is) refl
    ]
    ∙ ap (λ s. get s k) c.linked_orders.view_is

pub returns-clause-len : goal.returns-clause-len
returns-clause-len c =
    let i = c.linked_orders.inside in
    let indices = vec_capacity i.links in
    let P : Inside → Type 0 = λ v. slab_len (the_view v) ≡ slab_len (the_view i) in
    elim c.match-get_mut.branch [
      | in-Some w ↦ subst P (sym w.linked_orders-inside-is)
          (len_set i.orders i.links.items indices c.args.key c.args.both c.linked_orders.invariant)
      | in_default w ↦ subst P (sym w.linked_orders-inside-is) refl
    ]
    ∙ ap slab_len c.linked_orders.view_is
