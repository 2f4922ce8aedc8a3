use Rattle.std.proofs.Common.{ℕ, List, sym, subst}
use Rattle.std.specs.List.{slice_get}
use Rattle.std.specs.Option.{IsSome, IfSome}
use Rattle.std.specs.BTreeMap.Range.{IsLeBy, IsEntryInRange}
use Rattle.std.specs.declared.ops.Bound.TheVariants.{Unbounded}
use Rattle.hx_levels.specs.LevelKeys.{LevelKey, level_key_cmp}
use Rattle.hx_levels.specs.Levels.{LevelStore, slot_of, level_at}
use Rattle.hx_levels.proofs.InSlots.{is_there, has_slot}
use Rattle.hx_levels.proofs.level_book.level_store.LevelStore.first_level.Goals as goal

pub index-requires : goal.index-requires
index-requires c =
    let P : List (LevelKey × ℕ) → Type 0 = λ r. IfSome (slice_get r 0) (IsEntryInRange level_key_cmp c.args.from Unbounded c.self.inside.slots) in
    is_there (record { slots = c.self.inside.slots.entries; slab = c.self.inside.slab }) c.self.invariant c.in-Some.level_key.now c.in-Some.slot.now
    (subst P c.in-Some.ensures.steps (c.range.ensures.in_range tt).1).1

pub returns-in-Some-clause-least : goal.returns-in-Some-clause-least
returns-in-Some-clause-least c = λ q i s.
    let P : List (LevelKey × ℕ) → Type 0 = λ r. IfSome (slice_get r 0) (λ e. IsLeBy level_key_cmp e.0 q) in
    let tiers : LevelStore = record { slots = c.self.inside.slots.entries; slab = c.self.inside.slab } in
    subst P c.in-Some.ensures.steps
    ((c.range.ensures.in_range tt).2 q i (has_slot c.self.inside.slab (slot_of tiers q) (subst (λ v. IsSome (level_at v q)) (sym c.self.view_is) s)))
