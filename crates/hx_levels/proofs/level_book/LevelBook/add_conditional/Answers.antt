use Rattle.std.proofs.lemmas.Bool.{and_parts}
use Rattle.std.proofs.Common.{Option, ◌≡◌, ℕ, false, eqb, ◌+◌, ◌++◌, ◌∷◌, [], Some, None, refl, sym, ap, ◌∙◌, subst}
use Rattle.std.specs.Option.{option_map}
use Rattle.slab.specs.Slab.{get}
use Rattle.hx_levels.specs.Chain.{links_to}
use Rattle.hx_levels.specs.OrderLinks.{with_next, linked_last}
use Rattle.hx_book.specs.declared.order.Live.{Live}
use Rattle.hx_levels.specs.declared.level_book.linked_orders.LinkedOrder.{LinkedOrder}
use Rattle.hx_ranked.specs.declared.entry.Entry.{Entry}
use Rattle.hx_ranked.specs.Ranked.{IsFree, inserted}
use Rattle.hx_book.specs.Book.{terms_of, has_key}
use Rattle.hx_levels.specs.LevelBook.{with_room, walked, IsBook, number_in, entry_of, rank_at, level_key_of}
use Rattle.hx_levels.proofs.Numbers.{AreSame, number-is, number-retained, numbered-same, all-other}
use Rattle.hx_levels.proofs.Indexed.{free-last, indexed-same}
use Rattle.hx_levels.proofs.Added.{waits_at, none_has}
use Rattle.hx_levels.proofs.InTime.{walked-is, closed}
use Rattle.hx_levels.proofs.level_book.LevelBook.add_conditional.Goals as goal

pub store-key-requires : goal.store-key-requires
store-key-requires c = (c.self.invariant.room (terms_of c.args.order) (ap (λ v. v.reserved) c.self.view_is ∙ c.requires.reserved)).0

numbered-last : (c : goal.After-least_of) → number_in c.link_last.new.linked_orders c.store-key.result ≡ c.self.inside.next
numbered-last c = number-is c.link_last.new.linked_orders c.store-key.result _
    (c.link_last.ensures.own ∙ ap (option_map (linked_last c.none.result c.self.inside.time.last c.self.inside.next)) c.store-key.ensures.own)

free : (c : goal.After-least_of) (rank : ℕ) → rank ≡ rank_at (level_key_of (terms_of c.args.order)) c.args.order.shown c.self.inside.next → IsFree rank c.self.inside.conditional.entries
free c rank e =
    let i = c.self.inside in
    let live : Live = record { key = record { 0 = c.store-key.result }; order = c.args.order } in
    let orders = walked i.linked_orders i.time in
    let absent : has_key c.store-key.result orders ≡ false = none_has c.store-key.result orders (ap (option_map (λ (linked_order : LinkedOrder). linked_order.order)) (sym c.store-key.ensures.fresh) ∙ c.self.invariant.stored c.store-key.result) in
    let others : (k : ℕ) → eqb k c.store-key.result ≡ false → get c.link_last.new.linked_orders k ≡ option_map (with_next c.none.result i.time.last c.store-key.result k) (get i.linked_orders k) =
    λ k n. c.link_last.ensures.others k n ∙ ap (option_map (with_next c.none.result i.time.last c.store-key.result k)) (c.store-key.ensures.others k n) in
    let same : AreSame (number_in i.linked_orders) (number_in c.link_last.new.linked_orders) orders = all-other (λ k. number_in c.link_last.new.linked_orders k ≡ number_in i.linked_orders k) c.store-key.result orders absent
    (λ k n. number-retained (with_next c.none.result i.time.last c.store-key.result k) (λ linked_order. refl) i.linked_orders c.link_last.new.linked_orders k (others k n)) in
    subst (λ v. IsFree v i.conditional.entries) (sym (e ∙ ap (rank_at (level_key_of (terms_of c.args.order)) c.args.order.shown) (sym (numbered-last c))))
    (free-last (number_in c.link_last.new.linked_orders) i.next (with_room i.conditional i.sides.sizes).entries orders live (numbered-same (number_in i.linked_orders) (number_in c.link_last.new.linked_orders) i.next orders same c.self.invariant.numbered)
    (numbered-last c) c.self.invariant.small (indexed-same (number_in i.linked_orders) (number_in c.link_last.new.linked_orders) i.conditional.entries orders same c.self.invariant.indexed))

pub insert-requires-clause-room : goal.insert-requires-clause-room
insert-requires-clause-room c =
    (and_parts c.self.inside.conditional.has_room c.self.inside.sides.sizes.has_room (c.self.invariant.room (terms_of c.args.order) (ap (λ v. v.reserved) c.self.view_is ∙ c.requires.reserved)).3).0

pub insert-requires-clause-free : goal.insert-requires-clause-free
insert-requires-clause-free c = free c c.rank_at.result (c.rank_at.ensures.rank ∙ ap (λ r. rank_at r c.args.order.shown c.self.inside.next) c.level_key_of-level_key.ensures.level_key)

numbered : (c : goal.After-self-3-1) → number_in c.link_last.new.linked_orders c.store-key.result ≡ c.self.inside.next
numbered c = number-is c.link_last.new.linked_orders c.store-key.result _
    (c.link_last.ensures.own ∙ ap (option_map (linked_last c.none.result c.self.inside.time.last c.self.inside.next)) c.store-key.ensures.own)

after : (c : goal.After-self-3-1) → IsBook c.link_last.new.linked_orders c.self.inside.sides.levels c.with-self-inside.result None c.self.inside.retained (c.self.inside.next + 1) (with_room c.insert.new.self c.self.inside.sides.sizes)
    (walked c.self.inside.linked_orders c.self.inside.time ++ record { key = record { 0 = c.store-key.result }; order = c.args.order } ∷ [])
after c =
    let i = c.self.inside in
    let key = c.store-key.result in
    let live : Live = record { key = record { 0 = key }; order = c.args.order } in
    waits_at i.linked_orders c.link_last.new.linked_orders i.sides.levels i.time c.with-self-inside.result i.reserved i.retained i.next (with_room i.conditional i.sides.sizes) (with_room c.insert.new.self i.sides.sizes) (walked i.linked_orders i.time) live
    c.with-self-inside.ensures c.self.invariant c.requires.conditional (ap (λ v. v.reserved) c.self.view_is ∙ c.requires.reserved) c.store-key.ensures.fresh c.level_key_of-level_key.ensures.priced
    (c.link_last.ensures.own ∙ ap (option_map (linked_last c.none.result i.time.last i.next)) c.store-key.ensures.own
    ∙ ap (λ (l : Option ℕ). Some (record { order = c.args.order; time = links_to i.time.last None; queue = links_to l None; number = i.next })) c.none.ensures)
    (λ k n. c.link_last.ensures.others k n ∙ ap (option_map (with_next c.none.result i.time.last key k)) (c.store-key.ensures.others k n)
    ∙ ap (λ (l : Option ℕ). option_map (with_next l i.time.last key k) (get i.linked_orders k)) c.none.ensures)
    (c.insert.ensures ∙ ap (λ (e : Entry). inserted e i.conditional.entries) entry)
  where
    entry : record { rank = c.rank_at.result; key = c.store-key.result; least = c.least_of.result; shares = c.args.order.shares }
        ≡ entry_of (number_in c.link_last.new.linked_orders) (record { key = record { 0 = c.store-key.result }; order = c.args.order })
    entry =
        ap (λ r. record { rank = r; key = c.store-key.result; least = c.least_of.result; shares = c.args.order.shares })
        (c.rank_at.ensures.rank ∙ ap (λ r. rank_at r c.args.order.shown c.self.inside.next) c.level_key_of-level_key.ensures.level_key
        ∙ ap (rank_at (level_key_of (terms_of c.args.order)) c.args.order.shown) (sym (numbered c)))
        ∙ ap (λ l. record { rank = rank_at (level_key_of (terms_of c.args.order)) c.args.order.shown (number_in c.link_last.new.linked_orders c.store-key.result); key = c.store-key.result; least = l; shares = c.args.order.shares }) c.least_of.ensures

pub invariant_of-self : goal.invariant_of-self
invariant_of-self c = closed _ _ _ _ _ _ _ _ (after c)

pub returns-clause-orders : goal.returns-clause-orders
returns-clause-orders c =
    walked-is _ _ _ _ _ _ _ _ (after c)
    ∙ ap (λ v. v.orders ++ record { key = record { 0 = c.store-key.result }; order = c.args.order } ∷ []) c.self.view_is

pub returns-clause-fresh : goal.returns-clause-fresh
returns-clause-fresh c =
    ap (λ v. has_key c.store-key.result v.orders) (sym c.self.view_is)
    ∙ none_has c.store-key.result (walked c.self.inside.linked_orders c.self.inside.time)
    (ap (option_map (λ (linked_order : LinkedOrder). linked_order.order)) (sym c.store-key.ensures.fresh) ∙ c.self.invariant.stored c.store-key.result)
