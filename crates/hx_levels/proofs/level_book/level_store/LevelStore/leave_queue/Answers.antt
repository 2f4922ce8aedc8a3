use Rattle.std.proofs.Common.{◌≡◌, Some, refl, sym, ap, ◌∙◌}
use Rattle.hx_levels.specs.Levels.{slot_of, level_at, with_ends}
use Rattle.hx_levels.proofs.InSlots.{written, written_others}
use Rattle.hx_levels.proofs.level_book.level_store.LevelStore.leave_queue.Goals as goal

here : (c : goal.After-leave_in) → slot_of (record { slots = c.self.inside.slots.entries; slab = c.self.inside.slab }) c.args.at ≡ Some c.unwrap-slot.result
here c = ap (λ v. slot_of v c.args.at) (c.self.view_is ∙ c.look.ensures.same) ∙ sym c.look.ensures.slot ∙ c.unwrap-slot.ensures

pub invariant_of-self : goal.invariant_of-self
invariant_of-self c =
    written (record { slots = c.self.inside.slots.entries; slab = c.self.inside.slab }) (record { slots = c.self.inside.slots.entries; slab = c.leave_in.new.slab })
    c.args.at c.unwrap-slot.result (with_ends c.args.shown c.leave_in.result) c.self.invariant (here c) refl c.leave_in.ensures.changed c.leave_in.ensures.others

pub returns-clause-others : goal.returns-clause-others
returns-clause-others c = λ q n.
    written_others (record { slots = c.self.inside.slots.entries; slab = c.self.inside.slab }) (record { slots = c.self.inside.slots.entries; slab = c.leave_in.new.slab })
    c.args.at c.unwrap-slot.result (with_ends c.args.shown c.leave_in.result) c.self.invariant (here c) refl c.leave_in.ensures.changed c.leave_in.ensures.others
    q n
    ∙ ap (λ v. level_at v q) (c.self.view_is ∙ c.look.ensures.same)
