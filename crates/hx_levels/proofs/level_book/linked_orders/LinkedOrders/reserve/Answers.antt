use Rattle.std.proofs.Common.{◌≤◌, List, vec_capacity, sym, ap, ◌∙◌, subst}
use Rattle.std.proofs.lemmas.Bool.{true≢false}
use Rattle.std.proofs.lemmas.Result.{on_ok_weaker}
use Rattle.slab.specs.Slab.{Slab, HasRoomFor}
use Rattle.hx_book.specs.declared.order.Order.{Order}
use Rattle.hx_levels.specs.declared.level_book.linked_orders.Both.{Both}
use Rattle.hx_levels.specs.OrderLinks.{linked_orders_of, HaveLinks}
use Rattle.hx_levels.proofs.Joined.{room-joined, joined-room}
use Rattle.hx_levels.proofs.level_book.linked_orders.LinkedOrders.reserve.Goals as goal

pub returns-in_err-reserve_order-clause-succeeds : goal.returns-in_err-reserve_order-clause-succeeds
returns-in_err-reserve_order-clause-succeeds c = λ room.
    let i = c.self.inside in
    let r = room-joined i.orders i.links.items (vec_capacity i.links) c.self.invariant (subst (λ s. HasRoomFor s 1) (sym c.self.view_is) room) in
    absurd (true≢false (sym (c.in_err-reserve_order.ensures.succeeds r.0)))

pub returns-in_err-reserve_order-clause-had_room : goal.returns-in_err-reserve_order-clause-had_room
returns-in_err-reserve_order-clause-had_room c = λ room.
    let i = c.self.inside in
    let r = room-joined i.orders i.links.items (vec_capacity i.links) c.self.invariant (subst (λ s. HasRoomFor s 1) (sym c.self.view_is) room) in
    absurd (true≢false (sym (c.in_err-reserve_order.ensures.succeeds r.0)))

pub returns-clause-room : goal.returns-clause-room
returns-clause-room c =
    let i = c.self.inside in
    let orders = c.reserve_order.new.orders in
    let links = c.reserve_links.new.links in
    let have : HaveLinks orders links.items =
    subst (λ (l : List Both). HaveLinks orders l) (sym c.reserve_links.ensures.items)
    (subst (λ (s : Slab Order). HaveLinks s i.links.items) (sym c.reserve_order.ensures.rest_kept) c.self.invariant) in
    on_ok_weaker c.reserve_links.result
    (λ enough. joined-room orders links.items (vec_capacity links) have c.in_ok-reserve_order.ensures.room (subst (λ n. n ≤ vec_capacity links) c.capacity.ensures.value enough))
    c.reserve_links.ensures.room

pub returns-clause-succeeds : goal.returns-clause-succeeds
returns-clause-succeeds c = λ room.
    let i = c.self.inside in
    let r = room-joined i.orders i.links.items (vec_capacity i.links) c.self.invariant (subst (λ s. HasRoomFor s 1) (sym c.self.view_is) room) in
    let same = c.reserve_order.ensures.had_room r.0 in
    c.reserve_links.ensures.succeeds (subst (λ n. n ≤ vec_capacity i.links) (ap (λ (s : Slab Order). s.capacity) (sym same) ∙ sym c.capacity.ensures.value) r.1)

pub returns-clause-had_room : goal.returns-clause-had_room
returns-clause-had_room c = λ room.
    let i = c.self.inside in
    let r = room-joined i.orders i.links.items (vec_capacity i.links) c.self.invariant (subst (λ s. HasRoomFor s 1) (sym c.self.view_is) room) in
    let same = c.reserve_order.ensures.had_room r.0 in
    let indices = c.reserve_links.ensures.had_room (subst (λ n. n ≤ vec_capacity i.links) (ap (λ (s : Slab Order). s.capacity) (sym same) ∙ sym c.capacity.ensures.value) r.1) in
    ap (λ s. linked_orders_of s c.reserve_links.new.links.items (vec_capacity c.reserve_links.new.links)) same
    ∙ ap (λ l. linked_orders_of i.orders l (vec_capacity c.reserve_links.new.links)) c.reserve_links.ensures.items
    ∙ ap (linked_orders_of i.orders i.links.items) indices ∙ c.self.view_is
