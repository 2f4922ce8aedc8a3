use Rattle.std.proofs.Common.{◌≡◌, Some, refl, sym, ap, ◌∙◌}
use Rattle.hx_levels.specs.OrderLinks.{ends_with}
use Rattle.hx_levels.specs.Levels.{slot_of, level_at, ends_in, level_in, joined}
use Rattle.hx_levels.proofs.InSlots.{written, written_others}
use Rattle.hx_levels.proofs.level_book.level_store.LevelStore.join_queue.Goals as goal

here : (c : goal.After-join_in) → slot_of (record { slots = c.self.inside.slots.entries; slab = c.self.inside.slab }) c.args.at ≡ Some c.unwrap-slot.result
here c = ap (λ v. slot_of v c.args.at) (c.self.view_is ∙ c.look.ensures.same) ∙ sym c.look.ensures.slot ∙ c.unwrap-slot.ensures

pub invariant_of-self : goal.invariant_of-self
invariant_of-self c =
    written (record { slots = c.self.inside.slots.entries; slab = c.self.inside.slab }) (record { slots = c.self.inside.slots.entries; slab = c.join_in.new.slab })
    c.args.at c.unwrap-slot.result (joined c.args.shown (ends_with c.args.key (ends_in c.args.shown (level_in c.self.inside.slab (Some c.unwrap-slot.result)))) c.args.shares) c.self.invariant (here c) refl c.join_in.ensures.changed c.join_in.ensures.others

pub returns-clause-others : goal.returns-clause-others
returns-clause-others c = λ q n.
    written_others (record { slots = c.self.inside.slots.entries; slab = c.self.inside.slab }) (record { slots = c.self.inside.slots.entries; slab = c.join_in.new.slab })
    c.args.at c.unwrap-slot.result (joined c.args.shown (ends_with c.args.key (ends_in c.args.shown (level_in c.self.inside.slab (Some c.unwrap-slot.result)))) c.args.shares) c.self.invariant (here c) refl c.join_in.ensures.changed c.join_in.ensures.others
    q n
    ∙ ap (λ v. level_at v q) (c.self.view_is ∙ c.look.ensures.same)
