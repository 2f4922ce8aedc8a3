use Rattle.std.proofs.Common.{◌≡◌, ℕ, true, Option, Some, None, refl, sym, ap, ◌∙◌, subst}
use Rattle.std.specs.Option.{IsSome, IfSome, is_some, option_map}
use Rattle.std.proofs.lemmas.Bool.{true≢false}
use Rattle.slab.specs.Slab.{get}
use Rattle.hx_levels.specs.declared.level_book.levels.Level.{Level}
use Rattle.hx_levels.specs.declared.level_book.level_store.Tier.{Tier}
use Rattle.hx_levels.specs.Levels.{LevelStore, slot_of, level_in, level_at, or_empty}
use Rattle.hx_levels.proofs.InSlots.{has_level, is_vacant, is_taken, inserted, inserted_others}
use Rattle.hx_levels.proofs.level_book.level_store.LevelStore.make_level.Goals as goal

some_slot : (found : Option ℕ) (slot : Option ℕ) → IfSome found (λ s. slot ≡ Some s) → is_some found ≡ true → IsSome slot
some_slot None slot h s = cc
some_slot (Some n) slot h s = subst IsSome (sym h) refl

pub returns-then-is_some-clause-there : goal.returns-then-is_some-clause-there
returns-then-is_some-clause-there c =
    let tiers : LevelStore = record { slots = c.self.inside.slots.entries; slab = c.self.inside.slab } in
    has_level tiers c.self.invariant c.args.at
    (some_slot c.hinted.result (slot_of tiers c.args.at) c.hinted.ensures (sym c.is_some.ensures ∙ c.if-is_some.true))

abbrev before : goal.After-insert_reserved → LevelStore
before c = record { slots = c.self.inside.slots.entries; slab = c.self.inside.slab }

abbrev after : goal.After-insert_reserved → LevelStore
after c = record { slots = c.slot_or.new.slots.entries; slab = c.insert_reserved.new.self }

vacant : (c : goal.After-insert_reserved) → get c.self.inside.slab c.vacant_key-vacant.result ≡ None
vacant c = sym (ap (λ s. get s c.vacant_key-vacant.result) c.reserve.ensures.rest_kept) ∙ c.vacant_key-vacant.ensures.vacant

none : (c : goal.After-insert_reserved) → slot_of (before c) c.args.at ≡ None
none c = is_vacant (before c) c.self.invariant c.args.at c.in_ok-slot.slot c.vacant_key-vacant.result (vacant c) c.in_ok-slot.ensures.slot c.if-slot-vacant.true

same_slot : (c : goal.After-insert_reserved) → c.vacant_key-vacant.result ≡ c.insert_reserved.result
same_slot c = c.vacant_key-vacant.ensures.value ∙ sym c.insert_reserved.ensures.key

others : (c : goal.After-insert_reserved) (k : ℕ) → (k ≡ c.vacant_key-vacant.result → ⊥) → get c.insert_reserved.new.self k ≡ get c.self.inside.slab k
others c k n = c.insert_reserved.ensures.updates.others k (λ e. n (e ∙ sym (same_slot c))) ∙ ap (λ s. get s k) c.reserve.ensures.rest_kept

pub invariant_of-self-then-slot-vacant : goal.invariant_of-self-then-slot-vacant
invariant_of-self-then-slot-vacant c =
    inserted (before c) (after c) c.args.at c.vacant_key-vacant.result c.empty.result c.self.invariant (none c) (vacant c)
    (c.in_ok-slot.ensures.updates.1 ∙ ap Some c.if-slot-vacant.true) c.in_ok-slot.ensures.updates.2
    (ap (get c.insert_reserved.new.self) (same_slot c) ∙ c.insert_reserved.ensures.updates.changed) (others c)

pub returns-then-slot-vacant-clause-others : goal.returns-then-slot-vacant-clause-others
returns-then-slot-vacant-clause-others c = λ q n.
    inserted_others (before c) (after c) c.args.at c.vacant_key-vacant.result c.empty.result c.self.invariant (none c) (vacant c)
    (c.in_ok-slot.ensures.updates.1 ∙ ap Some c.if-slot-vacant.true) c.in_ok-slot.ensures.updates.2
    (ap (get c.insert_reserved.new.self) (same_slot c) ∙ c.insert_reserved.ensures.updates.changed) (others c) q n
    ∙ ap (λ v. level_at v q) c.self.view_is

-- a level that is there stays

present : (o : Option Level) → IsSome o → o ≡ or_empty o
present None h = absurd (true≢false (sym h))
present (Some level) h = refl

was_there : (c : goal.Then-is_some) → IsSome (level_at (record { slots = c.self.inside.slots.entries; slab = c.self.inside.slab }) c.args.at)
was_there c =
    let tiers : LevelStore = record { slots = c.self.inside.slots.entries; slab = c.self.inside.slab } in
    has_level tiers c.self.invariant c.args.at
    (some_slot c.hinted.result (slot_of tiers c.args.at) c.hinted.ensures (sym c.is_some.ensures ∙ c.if-is_some.true))

pub returns-then-is_some-clause-made : goal.returns-then-is_some-clause-made
returns-then-is_some-clause-made c =
    let tiers : LevelStore = record { slots = c.self.inside.slots.entries; slab = c.self.inside.slab } in
    present (level_at tiers c.args.at) (was_there c) ∙ ap (λ v. or_empty (level_at v c.args.at)) c.self.view_is

taken : (c : goal.Else-slot-vacant) → slot_of (record { slots = c.self.inside.slots.entries; slab = c.self.inside.slab }) c.args.at ≡ Some c.in_ok-slot.slot
taken c = is_taken (record { slots = c.self.inside.slots.entries; slab = c.self.inside.slab }) c.args.at c.in_ok-slot.slot c.vacant_key-vacant.result c.in_ok-slot.ensures.slot c.if-slot-vacant.false

same_level : (c : goal.Else-slot-vacant) → level_at (record { slots = c.slot_or.new.slots.entries; slab = c.reserve.new.self }) c.args.at
    ≡ level_at (record { slots = c.self.inside.slots.entries; slab = c.self.inside.slab }) c.args.at
same_level c =
    ap (level_in c.reserve.new.self) c.in_ok-slot.ensures.updates.1
    ∙ ap (λ s. option_map (λ (t : Tier). t.level) (get s c.in_ok-slot.slot)) c.reserve.ensures.rest_kept
    ∙ sym (ap (level_in c.self.inside.slab) (taken c))

stood : (c : goal.Else-slot-vacant) → IsSome (level_at (record { slots = c.self.inside.slots.entries; slab = c.self.inside.slab }) c.args.at)
stood c = has_level (record { slots = c.self.inside.slots.entries; slab = c.self.inside.slab }) c.self.invariant c.args.at (ap is_some (taken c))

pub returns-clause-there : goal.returns-clause-there
returns-clause-there c = subst IsSome (sym (same_level c)) (stood c)

pub returns-clause-made : goal.returns-clause-made
returns-clause-made c =
    same_level c ∙ present (level_at (record { slots = c.self.inside.slots.entries; slab = c.self.inside.slab }) c.args.at) (stood c)
    ∙ ap (λ v. or_empty (level_at v c.args.at)) c.self.view_is
