use Rattle.std.proofs.Common.{◌≡◌, ◌<◌, ◌^◌, true, eqb, Some, refl, sym, ap, ◌∙◌, subst, eq-eqb, ◌&&◌}
use Rattle.std.specs.Option.{is_some, option_map, option_copied}
use Rattle.std.proofs.lemmas.Bool.{cond-true}
use Rattle.std.proofs.lemmas.Option.{same_Some}
use Rattle.hx_levels.specs.declared.level_book.linked_orders.LinkedOrder.{LinkedOrder}
use Rattle.hx_levels.specs.OrderLinks.{less_at}
use Rattle.hx_book.specs.Book.{has_key, with_less, reduced}
use Rattle.hx_levels.specs.LevelBook.{with_room, walked, rank_at, IsBook}
use Rattle.hx_levels.proofs.InTime.{walked-is, closed}
use Rattle.hx_levels.proofs.LevelNext.{linked_order_found}
use Rattle.hx_levels.proofs.Removed.{number_small}
use Rattle.hx_levels.proofs.Reserved.{reduced_book, renewed-reduced}
use Rattle.hx_levels.proofs.level_book.LevelBook.reduce_conditional.Goals as goal

pub links-number-requires : goal.links-number-requires
links-number-requires c =
    let i = c.self.inside in
    let h : has_key c.args.key.0 (walked i.linked_orders i.time) ≡ true = ap (λ v. has_key c.args.key.0 v.orders) c.self.view_is ∙ c.requires.live in
    let f = linked_order_found i.linked_orders i.sides.levels i.time i.reserved i.retained i.next (with_room i.conditional i.sides.sizes) (walked i.linked_orders i.time) c.self.invariant c.args.key.0 h in
    ap is_some f.stored

pub rank_at-rank-requires : goal.rank_at-rank-requires
rank_at-rank-requires c =
    let i = c.self.inside in
    let h : has_key c.args.key.0 (walked i.linked_orders i.time) ≡ true = ap (λ v. has_key c.args.key.0 v.orders) c.self.view_is ∙ c.requires.live in
    let f = linked_order_found i.linked_orders i.sides.levels i.time i.reserved i.retained i.next (with_room i.conditional i.sides.sizes) (walked i.linked_orders i.time) c.self.invariant c.args.key.0 h in
    let number : f.linked_order.number ≡ c.links-number.result.number = same_Some _ _ (sym (ap (option_map (λ (n : LinkedOrder). n.number)) f.stored) ∙ c.links-number.ensures.number) in
    subst (λ n. n < 2 ^ 63) number (number_small i.linked_orders i.sides.levels i.time i.reserved i.retained i.next (with_room i.conditional i.sides.sizes) (walked i.linked_orders i.time) c.args.key.0 f.linked_order c.self.invariant h f.stored)

after : (c : goal.After-renew) → IsBook c.take_shares.new.linked_orders c.self.inside.sides.levels c.self.inside.time c.self.inside.reserved c.self.inside.retained c.self.inside.next (with_room c.renew.new.self c.self.inside.sides.sizes) (reduced c.args.key.0 c.args.by (walked c.self.inside.linked_orders c.self.inside.time))
after c =
    let i = c.self.inside in
    let key = c.args.key.0 in
    let h : has_key key (walked i.linked_orders i.time) ≡ true = ap (λ v. has_key key v.orders) c.self.view_is ∙ c.requires.live in
    let f = linked_order_found i.linked_orders i.sides.levels i.time i.reserved i.retained i.next (with_room i.conditional i.sides.sizes) (walked i.linked_orders i.time) c.self.invariant key h in
    let number : f.linked_order.number ≡ c.links-number.result.number = same_Some _ _ (sym (ap (option_map (λ (n : LinkedOrder). n.number)) f.stored) ∙ c.links-number.ensures.number) in
    let order = c.unwrap-order.result.now in
    let less : order ≡ with_less c.args.by f.linked_order.order =
    same_Some _ _ (sym (ap option_copied c.unwrap-order.ensures) ∙ c.order.ensures
    ∙ ap (option_map (λ (n : LinkedOrder). n.order)) (c.take_shares.ensures.changed key ∙ ap (option_map (less_at key c.args.by key)) f.stored)
    ∙ ap Some (cond-true (eqb key key) (with_less c.args.by f.linked_order.order) f.linked_order.order (eq-eqb key key refl))) in
    reduced_book i.linked_orders c.take_shares.new.linked_orders i.sides.levels i.time i.reserved i.retained i.next (with_room i.conditional i.sides.sizes) (with_room c.renew.new.self i.sides.sizes) (walked i.linked_orders i.time) key c.args.by
    c.take_shares.ensures.changed c.take_shares.ensures.capacity c.take_shares.ensures.len
    (renewed-reduced i.linked_orders i.sides.levels i.time i.reserved i.retained i.next (with_room i.conditional i.sides.sizes) (with_room c.renew.new.self i.sides.sizes) (walked i.linked_orders i.time) key c.args.by f.linked_order order c.rank_at-rank.result c.least_of.result
    c.self.invariant h f.stored less
    (c.rank_at-rank.ensures.rank ∙ ap (λ r. rank_at r order.shown c.links-number.result.number) c.level_key_of.ensures.level_key ∙ ap (rank_at _ order.shown) (sym number))
    c.least_of.ensures c.renew.ensures.entries)
    (ap (λ b. b && i.sides.sizes.has_room) c.renew.ensures.room) c.self.invariant

pub invariant_of-self : goal.invariant_of-self
invariant_of-self c = closed _ _ _ _ _ _ _ _ (after c)

pub returns-clause-orders : goal.returns-clause-orders
returns-clause-orders c = walked-is _ _ _ _ _ _ _ _ (after c) ∙ ap (λ v. reduced c.args.key.0 c.args.by v.orders) c.self.view_is
