use Rattle.std.proofs.Common.{sym, ap, ◌∙◌}
use Rattle.hx_levels.specs.Levels.{level_at}
use Rattle.hx_levels.proofs.InSlots.{is_there, removed, removed_others}
use Rattle.hx_levels.proofs.level_book.level_store.LevelStore.remove.Goals as goal

pub remove-requires-in-Some : goal.remove-requires-in-Some
remove-requires-in-Some c =
    is_there (record { slots = c.self.inside.slots.entries; slab = c.self.inside.slab }) c.self.invariant c.args.at c.in-Some.slot (sym c.remove.ensures.value ∙ c.in-Some.is)

pub invariant_of-self : goal.invariant_of-self
invariant_of-self c =
    removed (record { slots = c.self.inside.slots.entries; slab = c.self.inside.slab }) (record { slots = c.remove.new.self.entries; slab = c.remove-in-Some.new.self })
    c.args.at c.in-Some.slot c.self.invariant (sym c.remove.ensures.value ∙ c.in-Some.is) c.remove.ensures.updates.1 c.remove.ensures.updates.2
    c.remove-in-Some.ensures.updates.changed c.remove-in-Some.ensures.updates.others

pub returns-in-Some-clause-others : goal.returns-in-Some-clause-others
returns-in-Some-clause-others c = λ q n.
    removed_others (record { slots = c.self.inside.slots.entries; slab = c.self.inside.slab }) (record { slots = c.remove.new.self.entries; slab = c.remove-in-Some.new.self })
    c.args.at c.in-Some.slot c.self.invariant (sym c.remove.ensures.value ∙ c.in-Some.is) c.remove.ensures.updates.1 c.remove.ensures.updates.2
    c.remove-in-Some.ensures.updates.changed c.remove-in-Some.ensures.updates.others q n
    ∙ ap (λ v. level_at v q) c.self.view_is
