use Rattle.std.proofs.Common.{vec_capacity, sym, ap, ◌∙◌, arith}
use Rattle.hx_levels.specs.OrderLinks.{time_links, queue_links, number_at}
use Rattle.hx_levels.proofs.Joined.{has-order, read_links, links-joined}
use Rattle.hx_levels.proofs.level_book.linked_orders.LinkedOrders.links.Goals as goal

pub index-requires : goal.index-requires
index-requires c =
    let i = c.self.inside in
    let live = has-order i.orders i.links.items (vec_capacity i.links) c.args.self.now c.self.view_is c.self.invariant c.args.key c.requires in
    let l = c.self.invariant c.args.key live in
    omega (arith, i.links.ok.0)

pub returns-clause-time : goal.returns-clause-time
returns-clause-time c =
    let i = c.self.inside in
    let live = has-order i.orders i.links.items (vec_capacity i.links) c.args.self.now c.self.view_is c.self.invariant c.args.key c.requires in
    let l = read_links i.links.items c.args.key c.index.result.now (c.self.invariant c.args.key live) c.index.ensures in
    ap (λ s. time_links s c.args.key) (sym c.self.view_is) ∙ (links-joined i.orders i.links.items (vec_capacity i.links) c.args.key c.index.result.now live l).0

pub returns-clause-queue : goal.returns-clause-queue
returns-clause-queue c =
    let i = c.self.inside in
    let live = has-order i.orders i.links.items (vec_capacity i.links) c.args.self.now c.self.view_is c.self.invariant c.args.key c.requires in
    let l = read_links i.links.items c.args.key c.index.result.now (c.self.invariant c.args.key live) c.index.ensures in
    ap (λ s. queue_links s c.args.key) (sym c.self.view_is) ∙ (links-joined i.orders i.links.items (vec_capacity i.links) c.args.key c.index.result.now live l).1

pub returns-clause-number : goal.returns-clause-number
returns-clause-number c =
    let i = c.self.inside in
    let live = has-order i.orders i.links.items (vec_capacity i.links) c.args.self.now c.self.view_is c.self.invariant c.args.key c.requires in
    let l = read_links i.links.items c.args.key c.index.result.now (c.self.invariant c.args.key live) c.index.ensures in
    ap (λ s. number_at s c.args.key) (sym c.self.view_is) ∙ (links-joined i.orders i.links.items (vec_capacity i.links) c.args.key c.index.result.now live l).2
