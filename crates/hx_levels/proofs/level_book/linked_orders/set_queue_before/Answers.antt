use Rattle.std.proofs.Common.{Bool, cond, vec_capacity, refl, sym, ap, ◌∙◌, arith}
use Rattle.std.specs.Option.{option_map}
use Rattle.std.proofs.lemmas.Option.{slice_get_past}
use Rattle.slab.specs.Slab.{get, slab_len}
use Rattle.hx_levels.specs.declared.level_book.linked_orders.LinkedOrder.{LinkedOrder}
use Rattle.hx_levels.specs.OrderLinks.{on_queue, before_at}
use Rattle.hx_levels.proofs.Joined.{read_links, written, unwritten, len_set}
use Rattle.hx_levels.proofs.level_book.linked_orders.set_queue_before.Goals as goal

pub returns-in-Some-get_mut-clause-changed : goal.returns-in-Some-get_mut-clause-changed
returns-in-Some-get_mut-clause-changed c = λ k.
    let i = c.linked_orders.inside in
    let change : Bool → LinkedOrder → LinkedOrder = λ b n. record { order = n.order; time = n.time; queue = record { before = cond b c.args.to n.queue.before; after = n.queue.after }; number = n.number } in
    let l = c.in-Some-get_mut.ensures.variant.0 refl in
    let there = read_links i.links.items c.in-Some.key c.in-Some-get_mut.links.now (omega (arith, i.links.ok.0)) c.in-Some-get_mut.ensures.value in
    written i.orders.slots i.links.items c.args.at c.in-Some.key (sym c.get.ensures ∙ c.in-Some.is) change c.in-Some-get_mut.links.now _ there (λ o. refl) (λ n. refl) k
    ∙ ap (λ s. option_map (on_queue (before_at c.args.at c.args.to k)) (get s k)) c.linked_orders.view_is

pub returns-in-Some-get_mut-clause-len : goal.returns-in-Some-get_mut-clause-len
returns-in-Some-get_mut-clause-len c =
    let i = c.linked_orders.inside in
    len_set i.orders i.links.items (vec_capacity i.links) c.in-Some.key _ c.linked_orders.invariant ∙ ap slab_len c.linked_orders.view_is

pub returns-in_default-get_mut-clause-changed : goal.returns-in_default-get_mut-clause-changed
returns-in_default-get_mut-clause-changed c = λ k.
    let i = c.linked_orders.inside in
    let change : Bool → LinkedOrder → LinkedOrder = λ b n. record { order = n.order; time = n.time; queue = record { before = cond b c.args.to n.queue.before; after = n.queue.after }; number = n.number } in
    unwritten i.orders.slots i.links.items c.args.at c.in-Some.key (sym c.get.ensures ∙ c.in-Some.is) change (slice_get_past i.links.items c.in-Some.key c.in_default-get_mut.ensures.item.3) (λ n. refl) k
    ∙ ap (λ s. option_map (on_queue (before_at c.args.at c.args.to k)) (get s k)) c.linked_orders.view_is
