use Rattle.std.proofs.Common.{◌≡◌, ◌+◌, true, false, not, Some, None, Bor, sym, ap, ◌∙◌, subst}
use Rattle.std.specs.Option.{is_some, option_copied}
use Rattle.hx_levels.proofs.Present.{is_some-map}
use Rattle.hx_levels.proofs.Joined.{linked_order_by_parts}
use Rattle.hx_book.proofs.Next.{next-some, Ranked}
use Rattle.std.proofs.lemmas.Bool.{true≢false}
use Rattle.slab.specs.Slab.{get}
use Rattle.hx_book.specs.declared.order.Order.{Order}
use Rattle.hx_levels.specs.declared.level_book.linked_orders.LinkedOrder.{LinkedOrder}
use Rattle.hx_levels.specs.declared.level_book.linked_orders.Ends.{Ends}
use Rattle.hx_levels.specs.LevelKeys.{LevelKey}
use Rattle.hx_levels.specs.Levels.{first_at, FindsLarge, ends_in, level_at}
use Rattle.hx_units.specs.Side.{is_buy}
use Rattle.hx_book.specs.Book.{ranked as line, next_by_rank, IsRanked, terms_of}
use Rattle.hx_levels.specs.LevelBook.{with_room, walked, contra, level_key_of, unconditional}
use Rattle.hx_levels.proofs.LevelRanks.{distance_of}
use Rattle.hx_levels.proofs.LevelNext.{rank, linked_order_order, next_queued, next_hidden, one_empty, live_level_key, queued}
use Rattle.hx_levels.specs.Walks.{IsNextLarge}
use Rattle.hx_levels.proofs.LargeNext.{any_next, large_after, plain_sized}
use Rattle.hx_levels.proofs.level_book.LevelBook.queued_after.Goals as goal
use Rattle.hx_levels.proofs.level_book.LevelBook.queued_after.Goals.{in_default-hidden-via-in-Some-hidden+else-order, in_default-hidden-via-in_default-hidden}

pub unwrap-order-requires : goal.unwrap-order-requires
unwrap-order-requires c =
    let i = c.self.inside in
    let terms = c.args.terms.now in
    let key = c.args.key.0 in
    let orders = unconditional (walked i.linked_orders i.time) in
    let q = queued i.linked_orders i.sides.levels i.time i.reserved i.retained i.next (with_room i.conditional i.sides.sizes) (walked i.linked_orders i.time) c.self.invariant in
    let ranks : IsRanked terms key orders = subst (λ v. IsRanked terms key (unconditional v.orders)) (sym c.self.view_is) c.requires in
    let r : Ranked terms key orders = next-some terms key orders q.differ ranks in
    sym (is_some-map (λ (x : Bor Order). x.now) c.order.result)
    ∙ ap is_some (c.order.ensures ∙ q.stored key r.live r.found)

pub returns-in-Some-clause-next : goal.returns-in-Some-clause-next
returns-in-Some-clause-next c =
    let i = c.self.inside in
    let terms = c.args.terms.now in
    let key = c.args.key.0 in
    let orders = unconditional (walked i.linked_orders i.time) in
    let q = queued i.linked_orders i.sides.levels i.time i.reserved i.retained i.next (with_room i.conditional i.sides.sizes) (walked i.linked_orders i.time) c.self.invariant in
    let ranks : IsRanked terms key orders = subst (λ v. IsRanked terms key (unconditional v.orders)) (sym c.self.view_is) c.requires in
    let linked_order : LinkedOrder = record { order = c.unwrap-order.result.now; time = c.links.result.time; queue = c.links.result.queue; number = c.links.result.number } in
    let stored : get i.linked_orders key ≡ Some linked_order =
    linked_order_by_parts (get i.linked_orders key) linked_order (sym c.order.ensures ∙ ap option_copied c.unwrap-order.ensures) c.links.ensures.time c.links.ensures.queue c.links.ensures.number in
    let live = (rank i.linked_orders i.sides.levels i.retained orders q terms key ranks linked_order stored).live in
    any_next terms (Some c.args.key) c.args.least (unconditional c.args.self.now.orders) (Some (record { 0 = c.in-Some.next }))
    (next_queued i.linked_orders i.sides.levels i.retained orders q terms key ranks linked_order stored c.in-Some.next (sym c.get.ensures ∙ c.in-Some.is)
    ∙ ap (λ v. next_by_rank terms (Some c.args.key) (unconditional v.orders)) c.self.view_is)

pub first_large-requires-clause-single : goal.first_large-requires-clause-single
first_large-requires-clause-single c =
    let i = c.self.inside in
    λ a b p q. one_empty i.linked_orders i.sides.levels i.retained (unconditional (walked i.linked_orders i.time)) (queued i.linked_orders i.sides.levels i.time i.reserved i.retained i.next (with_room i.conditional i.sides.sizes) (walked i.linked_orders i.time) c.self.invariant) c.args.terms.now a b p q

pub returns-in-Some-hidden-clause-next : goal.returns-in-Some-hidden-clause-next
returns-in-Some-hidden-clause-next c =
    let i = c.self.inside in
    let terms = c.args.terms.now in
    let key = c.args.key.0 in
    let orders = unconditional (walked i.linked_orders i.time) in
    let q = queued i.linked_orders i.sides.levels i.time i.reserved i.retained i.next (with_room i.conditional i.sides.sizes) (walked i.linked_orders i.time) c.self.invariant in
    let ranks : IsRanked terms key orders = subst (λ v. IsRanked terms key (unconditional v.orders)) (sym c.self.view_is) c.requires in
    let linked_order : LinkedOrder = record { order = c.unwrap-order.result.now; time = c.links.result.time; queue = c.links.result.queue; number = c.links.result.number } in
    let stored : get i.linked_orders key ≡ Some linked_order =
    linked_order_by_parts (get i.linked_orders key) linked_order (sym c.order.ensures ∙ ap option_copied c.unwrap-order.ensures) c.links.ensures.time c.links.ensures.queue c.links.ensures.number in
    let live = (rank i.linked_orders i.sides.levels i.retained orders q terms key ranks linked_order stored).live in
    let at : c.level_key_of-level_key.result ≡ contra terms (distance_of live) =
    c.level_key_of-level_key.ensures.level_key
    ∙ ap (λ (o : Order). level_key_of (terms_of o)) (linked_order_order i.linked_orders i.sides.levels i.retained orders q terms key ranks linked_order stored)
    ∙ (live_level_key i.linked_orders i.sides.levels i.retained orders q terms key ranks linked_order stored).0 in
    let shown : linked_order.order.shown ≡ live.order.shown = ap (λ (o : Order). o.shown) (linked_order_order i.linked_orders i.sides.levels i.retained orders q terms key ranks linked_order stored) in
    let hidden : c.get-hidden.result ≡ first_at i.sides.levels terms.locate (not (is_buy terms.side)) (distance_of live) false =
    c.get-hidden.ensures ∙ ap (λ (e : Ends). e.first) (c.ends_at.ensures ∙ ap (λ r. ends_in false (level_at i.sides.levels r)) at) in
    any_next terms (Some c.args.key) c.args.least (unconditional c.args.self.now.orders) (Some (record { 0 = c.in-Some-hidden.next }))
    (next_hidden i.linked_orders i.sides.levels i.retained orders q terms key ranks linked_order stored c.in-Some-hidden.next (sym c.get.ensures ∙ c.in_default.is) (sym shown ∙ c.if-order.true) (sym hidden ∙ c.in-Some-hidden.is)
    ∙ ap (λ v. next_by_rank terms (Some c.args.key) (unconditional v.orders)) c.self.view_is)

pub returns-in_default-hidden-clause-next : goal.returns-in_default-hidden-clause-next
returns-in_default-hidden-clause-next c =
    let i = c.self.inside in
    let terms = c.args.terms.now in
    let key = c.args.key.0 in
    let orders = unconditional (walked i.linked_orders i.time) in
    let q = queued i.linked_orders i.sides.levels i.time i.reserved i.retained i.next (with_room i.conditional i.sides.sizes) (walked i.linked_orders i.time) c.self.invariant in
    let ranks : IsRanked terms key orders = subst (λ v. IsRanked terms key (unconditional v.orders)) (sym c.self.view_is) c.requires in
    let linked_order : LinkedOrder = record { order = c.unwrap-order.result.now; time = c.links.result.time; queue = c.links.result.queue; number = c.links.result.number } in
    let stored : get i.linked_orders key ≡ Some linked_order =
    linked_order_by_parts (get i.linked_orders key) linked_order (sym c.order.ensures ∙ ap option_copied c.unwrap-order.ensures) c.links.ensures.time c.links.ensures.queue c.links.ensures.number in
    let live = (rank i.linked_orders i.sides.levels i.retained orders q terms key ranks linked_order stored).live in
    let at : c.level_key_of-level_key.result ≡ contra terms (distance_of live) =
    c.level_key_of-level_key.ensures.level_key
    ∙ ap (λ (o : Order). level_key_of (terms_of o)) (linked_order_order i.linked_orders i.sides.levels i.retained orders q terms key ranks linked_order stored)
    ∙ (live_level_key i.linked_orders i.sides.levels i.retained orders q terms key ranks linked_order stored).0 in
    let shown : linked_order.order.shown ≡ live.order.shown = ap (λ (o : Order). o.shown) (linked_order_order i.linked_orders i.sides.levels i.retained orders q terms key ranks linked_order stored) in
    let hidden : c.get-hidden.result ≡ first_at i.sides.levels terms.locate (not (is_buy terms.side)) (distance_of live) false =
    c.get-hidden.ensures ∙ ap (λ (e : Ends). e.first) (c.ends_at.ensures ∙ ap (λ r. ends_in false (level_at i.sides.levels r)) at) in
    let empty : live.order.shown ≡ true → first_at i.sides.levels terms.locate (not (is_buy terms.side)) (distance_of live) false ≡ None =
    λ t. sym hidden ∙ elim c.in_default-hidden.branch [
      | in_default-hidden-via-in-Some-hidden+else-order w ↦ absurd (true≢false (sym t ∙ sym shown ∙ w.if-order.false))
      | in_default-hidden-via-in_default-hidden w ↦ w.in_default-hidden.is
    ] in
    let later : c.at-from.result ≡ contra terms (distance_of live + 1) =
    c.at-from.ensures ∙ ap (λ n. record c.level_key_of-level_key.result { distance = n + 1 }) c.distance.ensures ∙ ap (λ (r : LevelKey). record r { distance = r.distance + 1 }) at in
    let found = c.first_large.result in
    subst (λ v. IsNextLarge (Some c.args.key) c.args.least (line terms (unconditional v.orders)) c.as_key.result) c.self.view_is
    (subst (IsNextLarge (Some c.args.key) c.args.least (line terms orders)) (sym c.as_key.ensures)
    (large_after i.linked_orders i.sides.levels i.retained orders q (plain_sized i.sides.levels (walked i.linked_orders i.time) c.self.invariant.sized) terms c.args.least key ranks linked_order stored
    (sym c.get.ensures ∙ c.in_default.is) empty found
    (subst (λ n. FindsLarge i.sides.levels (contra terms (distance_of live + 1)) n c.args.least found) c.contra_of-limit.ensures.limit
    (subst (λ (r : LevelKey). FindsLarge i.sides.levels r c.contra_of-limit.result.1 c.args.least found) later c.first_large.ensures))))
