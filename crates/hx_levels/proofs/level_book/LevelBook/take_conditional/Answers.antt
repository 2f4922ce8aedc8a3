use Rattle.std.proofs.lemmas.Bool.{and_parts, and_from}
use Rattle.std.proofs.Common.{◌≡◌, true, sym, ap, ◌∙◌, subst}
use Rattle.std.specs.Option.{is_some, IfSome}
use Rattle.hx_book.specs.Book.{has_key, without, order_of, is_conditional}
use Rattle.hx_levels.specs.LevelBook.{with_room, walked, rank_at, IsBook}
use Rattle.hx_levels.proofs.InTime.{walked-is, closed}
use Rattle.hx_levels.proofs.LevelNext.{linked_order_found}
use Rattle.hx_levels.proofs.Removed.{waited_at, number_small}
use Rattle.hx_levels.proofs.level_book.LevelBook.take_conditional.Goals as goal

pub unlink_in_time-linked_order-requires : goal.unlink_in_time-linked_order-requires
unlink_in_time-linked_order-requires c =
    let i = c.self.inside in
    let h : has_key c.args.key.0 (walked i.linked_orders i.time) ≡ true = ap (λ v. has_key c.args.key.0 v.orders) c.self.view_is ∙ c.requires.live in
    let f = linked_order_found i.linked_orders i.sides.levels i.time i.reserved i.retained i.next (with_room i.conditional i.sides.sizes) (walked i.linked_orders i.time) c.self.invariant c.args.key.0 h in
    ap is_some f.stored

after : (c : goal.After-self-1) → IsBook c.unlink_in_time-linked_order.new.linked_orders c.self.inside.sides.levels c.without-self-inside.result c.self.inside.reserved c.self.inside.retained c.self.inside.next (with_room c.remove.new.self c.self.inside.sides.sizes) (without c.args.key.0 (walked c.self.inside.linked_orders c.self.inside.time))
after c =
    let i = c.self.inside in
    let h : has_key c.args.key.0 (walked i.linked_orders i.time) ≡ true = ap (λ v. has_key c.args.key.0 v.orders) c.self.view_is ∙ c.requires.live in
    let waits : IfSome (order_of c.args.key.0 (walked i.linked_orders i.time)) (λ order. is_conditional order ≡ true) = subst (λ v. IfSome (order_of c.args.key.0 v.orders) (λ order. is_conditional order ≡ true)) (sym c.self.view_is) c.requires.conditional in
    let linked_order = c.unlink_in_time-linked_order.result in
    waited_at i.linked_orders c.unlink_in_time-linked_order.new.linked_orders i.sides.levels i.time c.without-self-inside.result i.reserved i.retained i.next (with_room i.conditional i.sides.sizes) (with_room c.remove.new.self i.sides.sizes) (walked i.linked_orders i.time) c.args.key.0
    linked_order c.rank_at.result c.self.invariant h waits c.unlink_in_time-linked_order.ensures.was c.unlink_in_time-linked_order.ensures.own c.unlink_in_time-linked_order.ensures.others c.unlink_in_time-linked_order.ensures.capacity c.unlink_in_time-linked_order.ensures.len
    c.without-self-inside.ensures (c.rank_at.ensures.rank ∙ ap (λ r. rank_at r linked_order.order.shown linked_order.number) c.level_key_of-level_key.ensures.level_key) c.remove.ensures.entries
    (λ g. let p = and_parts i.conditional.has_room i.sides.sizes.has_room g in and_from c.remove.new.self.has_room i.sides.sizes.has_room (c.remove.ensures.room p.0) p.1)

pub invariant_of-self : goal.invariant_of-self
invariant_of-self c = closed _ _ _ _ _ _ _ _ (after c)

pub returns-clause-orders : goal.returns-clause-orders
returns-clause-orders c = walked-is _ _ _ _ _ _ _ _ (after c) ∙ ap (λ v. without c.args.key.0 v.orders) c.self.view_is

pub rank_at-requires : goal.rank_at-requires
rank_at-requires c =
    let i = c.self.inside in
    let h : has_key c.args.key.0 (walked i.linked_orders i.time) ≡ true = ap (λ v. has_key c.args.key.0 v.orders) c.self.view_is ∙ c.requires.live in
    number_small i.linked_orders i.sides.levels i.time i.reserved i.retained i.next (with_room i.conditional i.sides.sizes) (walked i.linked_orders i.time) c.args.key.0 c.unlink_in_time-linked_order.result c.self.invariant h c.unlink_in_time-linked_order.ensures.was
