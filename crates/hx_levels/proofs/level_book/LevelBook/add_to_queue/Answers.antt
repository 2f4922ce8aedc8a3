use Rattle.std.proofs.lemmas.Bool.{and_parts}
use Rattle.std.proofs.Common.{◌+◌, ◌++◌, ◌∷◌, [], Some, None, refl, sym, ap, ◌∙◌, subst}
use Rattle.std.specs.Option.{IsSome, option_map}
use Rattle.slab.specs.Slab.{get}
use Rattle.hx_levels.specs.declared.level_book.linked_orders.Ends.{Ends}
use Rattle.hx_levels.specs.Chain.{links_to}
use Rattle.hx_levels.specs.OrderLinks.{with_next, linked_last, ends_with}
use Rattle.hx_book.specs.declared.order.Live.{Live}
use Rattle.hx_levels.specs.declared.level_book.linked_orders.LinkedOrder.{LinkedOrder}
use Rattle.hx_levels.specs.Levels.{level_at, ends_in}
use Rattle.hx_book.specs.Book.{terms_of, has_key}
use Rattle.hx_levels.specs.LevelBook.{with_room, walked, IsBook}
use Rattle.hx_levels.proofs.Added.{added_at, none_has}
use Rattle.hx_levels.proofs.InTime.{walked-is, closed}
use Rattle.hx_levels.proofs.level_book.LevelBook.add_to_queue.Goals as goal

pub store-key-requires : goal.store-key-requires
store-key-requires c = (c.self.invariant.room (terms_of c.args.order) (ap (λ v. v.reserved) c.self.view_is ∙ c.requires.reserved)).0

pub join_queue-last-requires-clause-level : goal.join_queue-last-requires-clause-level
join_queue-last-requires-clause-level c =
    subst (λ r. IsSome (level_at c.self.inside.sides.levels r)) (sym c.level_key_of-level_key.ensures.level_key)
    (c.self.invariant.room (terms_of c.args.order) (ap (λ v. v.reserved) c.self.view_is ∙ c.requires.reserved)).1

pub join_queue-last-requires-clause-room : goal.join_queue-last-requires-clause-room
join_queue-last-requires-clause-room c =
    (and_parts c.self.inside.conditional.has_room c.self.inside.sides.sizes.has_room (c.self.invariant.room (terms_of c.args.order) (ap (λ v. v.reserved) c.self.view_is ∙ c.requires.reserved)).3).1

after : (c : goal.After-self-4-1) → IsBook c.link_last.new.linked_orders c.join_queue-last.new.self.levels c.with-self-inside.result None None (c.self.inside.next + 1) (with_room c.self.inside.conditional c.join_queue-last.new.self.sizes)
    (walked c.self.inside.linked_orders c.self.inside.time ++ record { key = record { 0 = c.store-key.result }; order = c.args.order } ∷ [])
after c =
    let key = c.store-key.result in
    let live : Live = record { key = record { 0 = key }; order = c.args.order } in
    let level_key = c.level_key_of-level_key.result in
    let ends : Ends = ends_in c.args.order.shown (level_at c.self.inside.sides.levels level_key) in
    let there : IsSome (level_at c.self.inside.sides.levels level_key) =
    subst (λ r. IsSome (level_at c.self.inside.sides.levels r)) (sym c.level_key_of-level_key.ensures.level_key)
    (c.self.invariant.room (terms_of c.args.order) (ap (λ v. v.reserved) c.self.view_is ∙ c.requires.reserved)).1 in
    let last = c.join_queue-last.ensures.last in
    let time_last = c.self.inside.time.last in
    added_at c.self.inside.linked_orders c.link_last.new.linked_orders c.self.inside.sides.levels c.join_queue-last.new.self.levels c.self.inside.time c.with-self-inside.result
    c.self.inside.reserved c.self.inside.retained c.self.inside.next (with_room c.self.inside.conditional c.self.inside.sides.sizes) (with_room c.self.inside.conditional c.join_queue-last.new.self.sizes) (walked c.self.inside.linked_orders c.self.inside.time) live level_key ends (ends_with key ends)
    c.level_key_of-level_key.ensures.level_key refl refl c.with-self-inside.ensures
    c.self.invariant c.requires.queued (ap (λ v. v.reserved) c.self.view_is ∙ c.requires.reserved) c.store-key.ensures.fresh there c.level_key_of-level_key.ensures.priced
    (c.link_last.ensures.own ∙ ap (option_map (linked_last c.join_queue-last.result time_last c.self.inside.next)) c.store-key.ensures.own
    ∙ ap (λ l. Some (record { order = c.args.order; time = links_to time_last None; queue = links_to l None; number = c.self.inside.next })) last)
    (λ k n. c.link_last.ensures.others k n ∙ ap (option_map (with_next c.join_queue-last.result time_last key k)) (c.store-key.ensures.others k n)
    ∙ ap (λ l. option_map (with_next l time_last key k) (get c.self.inside.linked_orders k)) last)
    c.join_queue-last.ensures.changed
    c.join_queue-last.ensures.others refl

pub invariant_of-self : goal.invariant_of-self
invariant_of-self c = closed _ _ _ _ _ _ _ _ (after c)

pub returns-clause-orders : goal.returns-clause-orders
returns-clause-orders c =
    walked-is _ _ _ _ _ _ _ _ (after c)
    ∙ ap (λ v. v.orders ++ record { key = record { 0 = c.store-key.result }; order = c.args.order } ∷ []) c.self.view_is

pub returns-clause-fresh : goal.returns-clause-fresh
returns-clause-fresh c =
    ap (λ v. has_key c.store-key.result v.orders) (sym c.self.view_is)
    ∙ none_has c.store-key.result (walked c.self.inside.linked_orders c.self.inside.time)
    (ap (option_map (λ (linked_order : LinkedOrder). linked_order.order)) (sym c.store-key.ensures.fresh) ∙ c.self.invariant.stored c.store-key.result)
