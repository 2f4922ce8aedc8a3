use Rattle.std.proofs.Common.{◌≡◌, false, refl, sym, ap, ◌∙◌, subst}
use Rattle.std.specs.Option.{IfSome}
use Rattle.hx_book.specs.Book.{reduced, order_of, is_conditional}
use Rattle.hx_levels.specs.LevelBook.{with_room, walked, IsBook}
use Rattle.hx_levels.proofs.InTime.{walked-is, closed}
use Rattle.hx_levels.proofs.Reserved.{reduced_book, queued-reduced}
use Rattle.hx_levels.proofs.level_book.LevelBook.reduce_in_queue.Goals as goal

after : (c : goal.After-take_shares) → IsBook c.take_shares.new.linked_orders c.self.inside.sides.levels c.self.inside.time c.self.inside.reserved c.self.inside.retained c.self.inside.next (with_room c.self.inside.conditional c.self.inside.sides.sizes) (reduced c.args.key.0 c.args.by (walked c.self.inside.linked_orders c.self.inside.time))
after c =
    let i = c.self.inside in
    let plain : IfSome (order_of c.args.key.0 (walked i.linked_orders i.time)) (λ order. is_conditional order ≡ false) = subst (λ v. IfSome (order_of c.args.key.0 v.orders) (λ order. is_conditional order ≡ false)) (sym c.self.view_is) c.requires.queued in
    reduced_book i.linked_orders c.take_shares.new.linked_orders i.sides.levels i.time i.reserved i.retained i.next (with_room i.conditional i.sides.sizes) (with_room i.conditional i.sides.sizes) (walked i.linked_orders i.time) c.args.key.0 c.args.by
    c.take_shares.ensures.changed c.take_shares.ensures.capacity c.take_shares.ensures.len
    (queued-reduced i.linked_orders i.sides.levels i.time i.reserved i.retained i.next (with_room i.conditional i.sides.sizes) (walked i.linked_orders i.time) c.args.key.0 c.args.by c.self.invariant plain) refl c.self.invariant

pub invariant_of-self : goal.invariant_of-self
invariant_of-self c = closed _ _ _ _ _ _ _ _ (after c)

pub returns-clause-orders : goal.returns-clause-orders
returns-clause-orders c = walked-is _ _ _ _ _ _ _ _ (after c) ∙ ap (λ v. reduced c.args.key.0 c.args.by v.orders) c.self.view_is
