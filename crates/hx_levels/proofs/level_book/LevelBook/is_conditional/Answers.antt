use Rattle.std.proofs.Common.{◌≡◌, true, Bor, sym, ap, ◌∙◌}
use Rattle.std.specs.Option.{is_some, option_map}
use Rattle.hx_book.specs.declared.order.Order.{Order}
use Rattle.hx_levels.specs.declared.level_book.linked_orders.LinkedOrder.{LinkedOrder}
use Rattle.hx_book.specs.Book.{has_key}
use Rattle.hx_levels.specs.LevelBook.{with_room, walked}
use Rattle.hx_levels.proofs.Present.{is_some-map}
use Rattle.hx_levels.proofs.LevelNext.{linked_order_found}
use Rattle.hx_levels.proofs.level_book.LevelBook.is_conditional.Goals as goal

pub unwrap-requires : goal.unwrap-requires
unwrap-requires c =
    let i = c.self.inside in
    let h : has_key c.args.key.0 (walked i.linked_orders i.time) ≡ true = ap (λ v. has_key c.args.key.0 v.orders) c.self.view_is ∙ c.requires in
    let f = linked_order_found i.linked_orders i.sides.levels i.time i.reserved i.retained i.next (with_room i.conditional i.sides.sizes) (walked i.linked_orders i.time) c.self.invariant c.args.key.0 h in
    sym (is_some-map (λ (x : Bor Order). x.now) c.order.result) ∙ ap is_some (c.order.ensures ∙ ap (option_map (λ (n : LinkedOrder). n.order)) f.stored)
