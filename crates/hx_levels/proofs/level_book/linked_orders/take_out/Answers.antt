use Rattle.std.proofs.Common.{◌+◌, None, vec_capacity, sym, ap, ◌∙◌, arith}
use Rattle.std.proofs.lemmas.Bool.{true≢false}
use Rattle.slab.specs.Slab.{get, slab_len}
use Rattle.hx_levels.proofs.Joined.{has-order, read_links, linked_order-joined, changed-own, changed-others, have-changed, len-joined}
use Rattle.hx_levels.proofs.level_book.linked_orders.take_out.Goals as goal

pub index-requires : goal.index-requires
index-requires c =
    let i = c.linked_orders.inside in
    let live = has-order i.orders i.links.items (vec_capacity i.links) c.args.linked_orders.now c.linked_orders.view_is c.linked_orders.invariant c.args.key c.requires in
    let l = c.linked_orders.invariant c.args.key live in
    omega (arith, i.links.ok.0)

pub remove-order-requires : goal.remove-order-requires
remove-order-requires c =
    let i = c.linked_orders.inside in
    has-order i.orders i.links.items (vec_capacity i.links) c.args.linked_orders.now c.linked_orders.view_is c.linked_orders.invariant c.args.key c.requires

pub returns-clause-was : goal.returns-clause-was
returns-clause-was c =
    let i = c.linked_orders.inside in
    let live = has-order i.orders i.links.items (vec_capacity i.links) c.args.linked_orders.now c.linked_orders.view_is c.linked_orders.invariant c.args.key c.requires in
    let there = read_links i.links.items c.args.key c.index.result.now (c.linked_orders.invariant c.args.key live) c.index.ensures in
    ap (λ s. get s c.args.key) (sym c.linked_orders.view_is)
    ∙ linked_order-joined i.orders i.links.items (vec_capacity i.links) c.args.key c.remove-order.result c.index.result.now c.remove-order.ensures.value there

pub returns-clause-own : goal.returns-clause-own
returns-clause-own c =
    let i = c.linked_orders.inside in
    changed-own i.orders c.remove-order.new.self i.links.items (vec_capacity i.links) (vec_capacity i.links) c.args.key None c.remove-order.ensures.updates

pub returns-clause-others : goal.returns-clause-others
returns-clause-others c = λ k n.
    let i = c.linked_orders.inside in
    changed-others i.orders c.remove-order.new.self i.links.items (vec_capacity i.links) (vec_capacity i.links) c.args.key None c.remove-order.ensures.updates k n
    ∙ ap (λ s. get s k) c.linked_orders.view_is

pub returns-clause-len : goal.returns-clause-len
returns-clause-len c =
    let i = c.linked_orders.inside in
    let indices = vec_capacity i.links in
    let have = have-changed i.orders c.remove-order.new.self i.links.items indices indices c.args.key None c.remove-order.ensures.updates c.linked_orders.invariant (λ some. absurd (true≢false (sym some))) in
    ap (λ n. n + 1) (len-joined c.remove-order.new.self i.links.items indices have) ∙ c.remove-order.ensures.len
    ∙ sym (len-joined i.orders i.links.items indices c.linked_orders.invariant) ∙ ap slab_len c.linked_orders.view_is
