use Rattle.std.proofs.lemmas.Bool.{and_parts, and_from}
use Rattle.std.proofs.Common.{◌≡◌, true, false, refl, sym, ap, ◌∙◌, subst}
use Rattle.std.specs.Option.{is_some, IfSome}
use Rattle.hx_book.specs.Book.{has_key, without, order_of, is_conditional}
use Rattle.hx_levels.specs.LevelBook.{with_room, walked, IsBook}
use Rattle.hx_levels.specs.Levels.{ends_in, level_at}
use Rattle.hx_levels.specs.OrderLinks.{ends_without}
use Rattle.hx_levels.proofs.InTime.{walked-is, closed}
use Rattle.hx_levels.proofs.LevelNext.{linked_order_found}
use Rattle.hx_levels.proofs.Removed.{removed_at, queued_at}
use Rattle.hx_levels.proofs.level_book.LevelBook.take_from_queue.Goals as goal

pub unlink-linked_order-requires : goal.unlink-linked_order-requires
unlink-linked_order-requires c =
    let i = c.self.inside in
    let h : has_key c.args.key.0 (walked i.linked_orders i.time) ≡ true = ap (λ v. has_key c.args.key.0 v.orders) c.self.view_is ∙ c.requires.live in
    let f = linked_order_found i.linked_orders i.sides.levels i.time i.reserved i.retained i.next (with_room i.conditional i.sides.sizes) (walked i.linked_orders i.time) c.self.invariant c.args.key.0 h in
    ap is_some f.stored

pub leave_level-requires : goal.leave_level-requires
leave_level-requires c =
    let i = c.self.inside in
    let h : has_key c.args.key.0 (walked i.linked_orders i.time) ≡ true = ap (λ v. has_key c.args.key.0 v.orders) c.self.view_is ∙ c.requires.live in
    let plain : IfSome (order_of c.args.key.0 (walked i.linked_orders i.time)) (λ order. is_conditional order ≡ false) = subst (λ v. IfSome (order_of c.args.key.0 v.orders) (λ order. is_conditional order ≡ false)) (sym c.self.view_is) c.requires.queued in
    queued_at i.linked_orders i.sides.levels i.time i.reserved i.retained i.next (with_room i.conditional i.sides.sizes) (walked i.linked_orders i.time) c.args.key.0 c.unlink-linked_order.result c.level_key_of-level_key.result c.self.invariant h plain c.unlink-linked_order.ensures.was c.level_key_of-level_key.ensures.level_key

after : (c : goal.After-self-1) → IsBook c.unlink-linked_order.new.linked_orders c.leave_level.new.self.levels c.without-self-inside.result c.self.inside.reserved c.self.inside.retained c.self.inside.next (with_room c.self.inside.conditional c.leave_level.new.self.sizes) (without c.args.key.0 (walked c.self.inside.linked_orders c.self.inside.time))
after c =
    let i = c.self.inside in
    let h : has_key c.args.key.0 (walked i.linked_orders i.time) ≡ true = ap (λ v. has_key c.args.key.0 v.orders) c.self.view_is ∙ c.requires.live in
    let plain : IfSome (order_of c.args.key.0 (walked i.linked_orders i.time)) (λ order. is_conditional order ≡ false) = subst (λ v. IfSome (order_of c.args.key.0 v.orders) (λ order. is_conditional order ≡ false)) (sym c.self.view_is) c.requires.queued in
    let ends = ends_in c.unlink-linked_order.result.order.shown (level_at i.sides.levels c.level_key_of-level_key.result) in
    let leaves = c.leave_level.ensures.left in
    removed_at i.linked_orders c.unlink-linked_order.new.linked_orders i.sides.levels leaves.left c.leave_level.new.self.levels i.time c.without-self-inside.result i.reserved i.retained i.next (with_room i.conditional i.sides.sizes) (with_room i.conditional c.leave_level.new.self.sizes) (walked i.linked_orders i.time) c.args.key.0
    c.unlink-linked_order.result c.level_key_of-level_key.result ends (ends_without c.unlink-linked_order.result.queue ends)
    c.self.invariant h plain c.unlink-linked_order.ensures.was c.unlink-linked_order.ensures.own c.unlink-linked_order.ensures.others c.unlink-linked_order.ensures.capacity c.unlink-linked_order.ensures.len
    c.level_key_of-level_key.ensures.level_key refl refl c.without-self-inside.ensures leaves.changed leaves.others leaves.dropped refl
    (λ g. let p = and_parts i.conditional.has_room i.sides.sizes.has_room g in and_from i.conditional.has_room c.leave_level.new.self.sizes.has_room p.0 (c.leave_level.ensures.room p.1))

pub invariant_of-self : goal.invariant_of-self
invariant_of-self c = closed _ _ _ _ _ _ _ _ (after c)

pub returns-clause-orders : goal.returns-clause-orders
returns-clause-orders c = walked-is _ _ _ _ _ _ _ _ (after c) ∙ ap (λ v. without c.args.key.0 v.orders) c.self.view_is
