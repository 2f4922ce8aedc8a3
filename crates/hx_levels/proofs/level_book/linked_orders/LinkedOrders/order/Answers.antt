use Rattle.std.proofs.Common.{ap, ◌∙◌}
use Rattle.std.specs.Option.{option_map}
use Rattle.std.specs.Prelude.{vec_capacity}
use Rattle.slab.specs.Slab.{get}
use Rattle.hx_levels.specs.declared.level_book.linked_orders.LinkedOrder.{LinkedOrder}
use Rattle.hx_levels.proofs.Joined.{order-joined}
use Rattle.hx_levels.proofs.level_book.linked_orders.LinkedOrders.order.Goals as goal

pub returns : goal.returns
returns c =
    let i = c.self.inside in
    c.get.ensures ∙ order-joined i.orders i.links.items (vec_capacity i.links) c.self.invariant c.args.key
    ∙ ap (λ s. option_map (λ (n : LinkedOrder). n.order) (get s c.args.key)) c.self.view_is
