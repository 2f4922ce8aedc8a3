use Rattle.std.proofs.Common.{◌≡◌, Some, refl, sym, ap, ◌∙◌}
use Rattle.hx_levels.specs.Levels.{slot_of, level_at, with_most}
use Rattle.hx_levels.proofs.InSlots.{is_there, written, written_others}
use Rattle.hx_levels.proofs.level_book.level_store.LevelStore.lower.Goals as goal

pub lower_in-requires : goal.lower_in-requires
lower_in-requires c =
    is_there (record { slots = c.self.inside.slots.entries; slab = c.self.inside.slab }) c.self.invariant c.args.at c.in-Some.slot
    (ap (λ v. slot_of v c.args.at) (c.self.view_is ∙ c.look.ensures.same) ∙ sym c.look.ensures.slot ∙ c.in-Some.is)

here : (c : goal.After-lower_in) → slot_of (record { slots = c.self.inside.slots.entries; slab = c.self.inside.slab }) c.args.at ≡ Some c.in-Some.slot
here c = ap (λ v. slot_of v c.args.at) (c.self.view_is ∙ c.look.ensures.same) ∙ sym c.look.ensures.slot ∙ c.in-Some.is

pub invariant_of-self : goal.invariant_of-self
invariant_of-self c =
    written (record { slots = c.self.inside.slots.entries; slab = c.self.inside.slab }) (record { slots = c.self.inside.slots.entries; slab = c.lower_in.new.slab })
    c.args.at c.in-Some.slot (with_most c.args.most) c.self.invariant (here c) refl c.lower_in.ensures.changed c.lower_in.ensures.others

pub returns-clause-others : goal.returns-clause-others
returns-clause-others c = λ q n.
    written_others (record { slots = c.self.inside.slots.entries; slab = c.self.inside.slab }) (record { slots = c.self.inside.slots.entries; slab = c.lower_in.new.slab })
    c.args.at c.in-Some.slot (with_most c.args.most) c.self.invariant (here c) refl c.lower_in.ensures.changed c.lower_in.ensures.others
    q n
    ∙ ap (λ v. level_at v q) (c.self.view_is ∙ c.look.ensures.same)
