use Rattle.std.proofs.Common.{◌+◌, ◌<◌, ◌^◌, Some, IsOk, sym, ap, ◌∙◌, subst, refl, arith}
use Rattle.std.proofs.lemmas.Bool.{true≢false, and_parts, and_from}
use Rattle.slab.specs.Slab.{HasRoomFor}
use Rattle.hx_levels.specs.declared.level_book.LevelBook.TheInside.{Inside}
use Rattle.hx_levels.specs.LevelBook.{with_room, walked, IsBook}
use Rattle.hx_levels.proofs.InTime.{walked-is, closed}
use Rattle.hx_levels.proofs.Reserved.{same_book, reserved_first_at, reserved_next_at}
use Rattle.hx_levels.proofs.level_book.LevelBook.reserve_slot.Goals as goal
use Rattle.hx_levels.proofs.level_book.LevelBook.reserve_slot.Goals.{in-Some, in_default}

pub invariant_of-self : goal.invariant_of-self
invariant_of-self c =
    let i = c.self.inside in
    closed _ _ _ _ _ _ _ _ (same_book i.linked_orders c.reserve.new.self i.sides.levels i.sides.levels i.time i.reserved i.retained i.next (with_room i.conditional i.sides.sizes) (with_room i.conditional i.sides.sizes) (walked i.linked_orders i.time)
    c.reserve.ensures.rest_kept (λ h. subst (λ n. HasRoomFor n 1) (sym (c.reserve.ensures.had_room h)) h) (λ q. refl) refl (λ h. h) c.self.invariant)

pub returns-in_err-reserve-clause-orders : goal.returns-in_err-reserve-clause-orders
returns-in_err-reserve-clause-orders c =
    let i = c.self.inside in
    walked-is _ _ _ _ _ _ _ _ (same_book i.linked_orders c.reserve.new.self i.sides.levels i.sides.levels i.time i.reserved i.retained i.next (with_room i.conditional i.sides.sizes) (with_room i.conditional i.sides.sizes) (walked i.linked_orders i.time)
    c.reserve.ensures.rest_kept (λ h. subst (λ n. HasRoomFor n 1) (sym (c.reserve.ensures.had_room h)) h) (λ q. refl) refl (λ h. h) c.self.invariant)
    ∙ ap (λ v. v.orders) c.self.view_is

refused : (c : goal.After-from_residual-in_err-reserve-2) → IsBook c.reserve.new.self c.self.inside.sides.levels c.self.inside.time c.self.inside.reserved c.self.inside.retained c.self.inside.next (with_room c.reserve-2.new.self c.self.inside.sides.sizes) (walked c.self.inside.linked_orders c.self.inside.time)
refused c =
    let i = c.self.inside in
    same_book i.linked_orders c.reserve.new.self i.sides.levels i.sides.levels i.time i.reserved i.retained i.next (with_room i.conditional i.sides.sizes) (with_room c.reserve-2.new.self i.sides.sizes) (walked i.linked_orders i.time)
    c.reserve.ensures.rest_kept (λ h. subst (λ n. HasRoomFor n 1) (sym (c.reserve.ensures.had_room h)) h) (λ q. refl) c.reserve-2.ensures.entries
    (λ h. absurd (true≢false (sym (subst IsOk c.in_err-reserve-2.was (c.reserve-2.ensures.retained (and_parts i.conditional.has_room i.sides.sizes.has_room h).0))))) c.self.invariant

no_level : (c : goal.After-from_residual-in_err-make_level) → IsBook c.reserve.new.self c.make_level.new.self.levels c.self.inside.time c.self.inside.reserved c.self.inside.retained c.self.inside.next (with_room c.reserve-2.new.self c.make_level.new.self.sizes) (walked c.self.inside.linked_orders c.self.inside.time)
no_level c =
    let i = c.self.inside in
    same_book i.linked_orders c.reserve.new.self i.sides.levels c.make_level.new.self.levels i.time i.reserved i.retained i.next (with_room i.conditional i.sides.sizes) (with_room c.reserve-2.new.self c.make_level.new.self.sizes) (walked i.linked_orders i.time)
    c.reserve.ensures.rest_kept (λ h. subst (λ n. HasRoomFor n 1) (sym (c.reserve.ensures.had_room h)) h) c.in_err-make_level.ensures.err c.reserve-2.ensures.entries
    (λ h. and_from c.reserve-2.new.self.has_room c.make_level.new.self.sizes.has_room c.in_ok-reserve-2.ensures.room
    (c.make_level.ensures.had_room (and_parts i.conditional.has_room i.sides.sizes.has_room h).1)) c.self.invariant

pub invariant_of-self-in_err-reserve-2 : goal.invariant_of-self-in_err-reserve-2
invariant_of-self-in_err-reserve-2 c = closed _ _ _ _ _ _ _ _ (refused c)

pub returns-in_err-reserve-2-clause-orders : goal.returns-in_err-reserve-2-clause-orders
returns-in_err-reserve-2-clause-orders c = walked-is _ _ _ _ _ _ _ _ (refused c) ∙ ap (λ v. v.orders) c.self.view_is

pub invariant_of-self-in_err-make_level : goal.invariant_of-self-in_err-make_level
invariant_of-self-in_err-make_level c = closed _ _ _ _ _ _ _ _ (no_level c)

pub returns-in_err-make_level-clause-orders : goal.returns-in_err-make_level-clause-orders
returns-in_err-make_level-clause-orders c = walked-is _ _ _ _ _ _ _ _ (no_level c) ∙ ap (λ v. v.orders) c.self.view_is

after : (c : goal.After-self-2-1) → IsBook c.match-self.self-inside.linked_orders c.match-self.self-inside.sides.levels c.match-self.self-inside.time (Some c.args.terms) (Some c.level_key_at-level_key.result) c.match-self.self-inside.next (with_room c.match-self.self-inside.conditional c.match-self.self-inside.sides.sizes) (walked c.self.inside.linked_orders c.self.inside.time)
after c =
    let i = c.self.inside in
    let left : i.next + 1 < 2 ^ 63 = (let h = c.if-self-ge-LAST_NUMBER.false in omega arith) in
    let P : Inside → Type 0 = λ v. IsBook v.linked_orders v.sides.levels v.time (Some c.args.terms) (Some c.level_key_at-level_key.result) v.next (with_room v.conditional v.sides.sizes) (walked i.linked_orders i.time) in
    elim c.match-self.branch [
      | in-Some w ↦ subst P (sym w.self-inside-is)
          (reserved_next_at i.linked_orders c.reserve.new.self i.sides.levels c.make_level.new.self.levels w.drop_empty.new.self.levels i.time i.reserved i.retained i.next (with_room i.conditional i.sides.sizes) (with_room c.reserve-2.new.self w.drop_empty.new.self.sizes) (walked i.linked_orders i.time) c.args.terms c.level_key_at-level_key.result w.in-Some.old
          c.self.invariant c.reserve-2.ensures.entries
          (and_from c.reserve-2.new.self.has_room w.drop_empty.new.self.sizes.has_room c.in_ok-reserve-2.ensures.room (w.drop_empty.ensures.room c.in_ok-make_level.ensures.room)) left
          c.level_key_at-level_key.ensures c.reserve.ensures.rest_kept c.in_ok-reserve.ensures.room c.in_ok-make_level.ensures.there c.in_ok-make_level.ensures.made c.make_level.ensures.ends c.make_level.ensures.others w.in-Some.is w.drop_empty.ensures.dropped)
      | in_default w ↦ subst P (sym w.self-inside-is)
          (reserved_first_at i.linked_orders c.reserve.new.self i.sides.levels c.make_level.new.self.levels i.time i.reserved i.retained i.next (with_room i.conditional i.sides.sizes) (with_room c.reserve-2.new.self c.make_level.new.self.sizes) (walked i.linked_orders i.time) c.args.terms c.level_key_at-level_key.result
          c.self.invariant c.reserve-2.ensures.entries
          (and_from c.reserve-2.new.self.has_room c.make_level.new.self.sizes.has_room c.in_ok-reserve-2.ensures.room c.in_ok-make_level.ensures.room) left
          c.level_key_at-level_key.ensures c.reserve.ensures.rest_kept c.in_ok-reserve.ensures.room c.in_ok-make_level.ensures.there c.in_ok-make_level.ensures.made c.make_level.ensures.ends c.make_level.ensures.others w.in_default.is)
    ]

pub invariant_of-self-2 : goal.invariant_of-self-2
invariant_of-self-2 c = closed _ _ _ _ _ _ _ _ (after c)

pub returns-clause-orders : goal.returns-clause-orders
returns-clause-orders c = walked-is _ _ _ _ _ _ _ _ (after c) ∙ ap (λ v. v.orders) c.self.view_is
