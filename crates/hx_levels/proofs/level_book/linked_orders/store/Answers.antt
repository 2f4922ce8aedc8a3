use Rattle.std.proofs.Common.{◌+◌, slice_get, vec_capacity, sym, ap, ◌∙◌, subst}
use Rattle.slab.specs.Slab.{get, slab_len, HasRoomFor}
use Rattle.hx_levels.specs.OrderLinks.{linked_order_at, no_links}
use Rattle.hx_levels.proofs.Joined.{room-joined, get-joined, linked_order-joined, have-stored, stored-others, len-joined}
use Rattle.hx_levels.proofs.level_book.linked_orders.store.Goals as goal

pub insert_reserved-key-requires : goal.insert_reserved-key-requires
insert_reserved-key-requires c =
    let i = c.linked_orders.inside in
    (room-joined i.orders i.links.items (vec_capacity i.links) c.linked_orders.invariant (subst (λ s. HasRoomFor s 1) (sym c.linked_orders.view_is) c.requires)).0

pub invariant_of-linked_orders : goal.invariant_of-linked_orders
invariant_of-linked_orders c =
    let i = c.linked_orders.inside in
    have-stored i.orders c.insert_reserved-key.new.self i.links.items c.clear_links.new.links.items c.insert_reserved-key.result c.args.order no_links
    c.insert_reserved-key.ensures.updates c.linked_orders.invariant c.clear_links.ensures.longer c.clear_links.ensures.own c.clear_links.ensures.others

pub returns-clause-fresh : goal.returns-clause-fresh
returns-clause-fresh c =
    let i = c.linked_orders.inside in
    ap (λ s. get s c.insert_reserved-key.result) (sym c.linked_orders.view_is) ∙ get-joined i.orders.slots i.links.items c.insert_reserved-key.result
    ∙ ap (λ o. linked_order_at o (slice_get i.links.items c.insert_reserved-key.result)) c.insert_reserved-key.ensures.was_vacant

pub returns-clause-own : goal.returns-clause-own
returns-clause-own c =
    let links = c.clear_links.new.links in
    linked_order-joined c.insert_reserved-key.new.self links.items (vec_capacity links) c.insert_reserved-key.result c.args.order no_links
    c.insert_reserved-key.ensures.updates.changed c.clear_links.ensures.own

pub returns-clause-others : goal.returns-clause-others
returns-clause-others c = λ k n.
    let i = c.linked_orders.inside in
    stored-others i.orders c.insert_reserved-key.new.self i.links.items c.clear_links.new.links.items c.insert_reserved-key.result c.args.order no_links
    c.insert_reserved-key.ensures.updates c.linked_orders.invariant c.clear_links.ensures.longer c.clear_links.ensures.own c.clear_links.ensures.others
    (vec_capacity i.links) (vec_capacity c.clear_links.new.links) k n
    ∙ ap (λ s. get s k) c.linked_orders.view_is

pub returns-clause-len : goal.returns-clause-len
returns-clause-len c =
    let i = c.linked_orders.inside in
    let links = c.clear_links.new.links in
    let have = have-stored i.orders c.insert_reserved-key.new.self i.links.items links.items c.insert_reserved-key.result c.args.order no_links
    c.insert_reserved-key.ensures.updates c.linked_orders.invariant c.clear_links.ensures.longer c.clear_links.ensures.own c.clear_links.ensures.others in
    len-joined c.insert_reserved-key.new.self links.items (vec_capacity links) have ∙ c.insert_reserved-key.ensures.len
    ∙ ap (λ n. n + 1) (sym (len-joined i.orders i.links.items (vec_capacity i.links) c.linked_orders.invariant) ∙ ap slab_len c.linked_orders.view_is)
