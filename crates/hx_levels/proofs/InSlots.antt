-- Levels stay in their slots, whatever is written, put in or taken out.
use Rattle.std.proofs.Common.{◌≡◌, ℕ, Bool, true, false, eqb, Option, Some, None, refl, sym, ap, ◌∙◌, eqb-true, ne_eqb}
use Rattle.std.proofs.lemmas.Bool.{eqb-false, true≢false}
use Rattle.std.specs.Option.{IsSome, is_some, option_map, unwrap_or}
use Rattle.std.specs.BTreeMap.{is_at}
use Rattle.std.proofs.lemmas.Option.{same_Some}
use Rattle.slab.specs.Slab.{Slab, get}
use Rattle.hx_levels.specs.declared.level_book.levels.Level.{Level}
use Rattle.hx_levels.specs.declared.level_book.level_store.Tier.{Tier}
use Rattle.hx_levels.specs.LevelKeys.{LevelKey, level_key_cmp}
use Rattle.hx_levels.specs.Levels.{LevelStore, AreInSlots, slot_of, level_key_in, level_in, level_at, on_level}
use Rattle.hx_levels.proofs.LevelKeys.{apart, one_level_key}

none_some : {A : Type 0} {x : A} → None ≡ Some x → ⊥
none_some h = cc

-- a level key that has a level has a slot
pub has_slot : (slab : Slab Tier) (slot : Option ℕ) → IsSome (level_in slab slot) → IsSome slot
has_slot slab None h = h
has_slot slab (Some slot) h = refl

-- and in that slot there is a tier
pub is_there : (tiers : LevelStore) → AreInSlots tiers → (at : LevelKey) (slot : ℕ) → slot_of tiers at ≡ Some slot → IsSome (get tiers.slab slot)
is_there tiers book at slot h = by (get tiers.slab slot) (book.leads at slot h)
  where
    by : (o : Option Tier) → option_map (λ (t : Tier). t.at) o ≡ Some at → IsSome o
    by None e = absurd (none_some e)
    by (Some t) e = refl

-- and so there is a level
pub has_level : (tiers : LevelStore) → AreInSlots tiers → (at : LevelKey) → IsSome (slot_of tiers at) → IsSome (level_at tiers at)
has_level tiers book at = by (slot_of tiers at) refl
  where
    with_level : (o : Option Tier) → IsSome o → IsSome (option_map (λ (t : Tier). t.level) o)
    with_level None s = s
    with_level (Some t) s = refl

    by : (o : Option ℕ) → slot_of tiers at ≡ o → IsSome o → IsSome (level_in tiers.slab o)
    by None h s = s
    by (Some slot) h s = with_level (get tiers.slab slot) (is_there tiers book at slot h)

-- a level key whose slot, or else a vacant one, is the vacant one has none
pub is_vacant : (tiers : LevelStore) → AreInSlots tiers → (at : LevelKey) (slot vacant : ℕ) → get tiers.slab vacant ≡ None
    → slot ≡ unwrap_or (slot_of tiers at) vacant → slot ≡ vacant → slot_of tiers at ≡ None
is_vacant tiers book at slot vacant none is same = by (slot_of tiers at) refl is
  where
    by : (o : Option ℕ) → slot_of tiers at ≡ o → slot ≡ unwrap_or o vacant → o ≡ None
    by None h e = refl
    by (Some s) h e =
        let there : is_some (get tiers.slab s) ≡ true = is_there tiers book at s h in
        absurd (true≢false (sym there ∙ ap is_some (ap (get tiers.slab) (sym e ∙ same) ∙ none)))

-- and otherwise it has that slot
pub is_taken : (tiers : LevelStore) (at : LevelKey) (slot vacant : ℕ) → slot ≡ unwrap_or (slot_of tiers at) vacant → (slot ≡ vacant → ⊥) → slot_of tiers at ≡ Some slot
is_taken tiers at slot vacant is other = by (slot_of tiers at) is
  where
    by : (o : Option ℕ) → slot ≡ unwrap_or o vacant → o ≡ Some slot
    by None e = absurd (other e)
    by (Some s) e = ap Some (sym e)

-- the level in a slot is written

module _ (old new : LevelStore) (at : LevelKey) (slot : ℕ) (change : Level → Level)
    (book : AreInSlots old) (here : slot_of old at ≡ Some slot) (slots : new.slots ≡ old.slots)
    (changed : get new.slab slot ≡ option_map (on_level change) (get old.slab slot))
    (others : (k : ℕ) → eqb k slot ≡ false → get new.slab k ≡ get old.slab k) where
  slots_same : (q : LevelKey) → slot_of new q ≡ slot_of old q
  slots_same q = ap (λ s. slot_of (record new { slots = s }) q) slots

  level_keys_same : (k : ℕ) → level_key_in new k ≡ level_key_in old k
  level_keys_same k = by (eqb k slot) refl
    where
      retained : (tier : Option Tier) → option_map (λ (t : Tier). t.at) (option_map (on_level change) tier) ≡ option_map (λ (t : Tier). t.at) tier
      retained None = refl
      retained (Some tier) = refl

      by : (b : Bool) → eqb k slot ≡ b → level_key_in new k ≡ level_key_in old k
      by true e =
          let h = eqb-true k slot e in
          ap (level_key_in new) h ∙ ap (option_map (λ (t : Tier). t.at)) changed ∙ retained (get old.slab slot) ∙ ap (level_key_in old) (sym h)
      by false e = ap (option_map (λ (t : Tier). t.at)) (others k e)

  pub written : AreInSlots new
  written = record {
    leads = λ q s h. level_keys_same s ∙ book.leads q s (sym (slots_same q) ∙ h);
    stands = λ q s h. slots_same q ∙ book.stands q s (sym (level_keys_same s) ∙ h);
  }

  pub written_others : (q : LevelKey) → (q ≡ at → ⊥) → level_at new q ≡ level_at old q
  written_others q n = ap (level_in new.slab) (slots_same q) ∙ by (slot_of old q) refl
    where
      by : (o : Option ℕ) → slot_of old q ≡ o → level_in new.slab o ≡ level_in old.slab o
      by None h = refl
      by (Some s) h =
          ap (option_map (λ (t : Tier). t.level))
          (others s (ne_eqb s slot (λ e. n (same_Some _ _ (sym (book.leads q s h) ∙ ap (level_key_in old) e ∙ book.leads at slot here)))))

-- a level is put into a vacant slot

module _ (old new : LevelStore) (at : LevelKey) (slot : ℕ) (level : Level)
    (book : AreInSlots old) (none : slot_of old at ≡ None) (vacant : get old.slab slot ≡ None)
    (slot_is : slot_of new at ≡ Some slot) (slots_others : (q : LevelKey) → is_at (level_key_cmp at) q ≡ false → slot_of new q ≡ slot_of old q)
    (tier_is : get new.slab slot ≡ Some (record { at = at; level = level })) (others : (k : ℕ) → (k ≡ slot → ⊥) → get new.slab k ≡ get old.slab k) where
  not_vacant : (q : LevelKey) (s : ℕ) → level_key_in old s ≡ Some q → s ≡ slot → ⊥
  not_vacant q s h e = none_some (ap (option_map (λ (t : Tier). t.at)) (sym vacant) ∙ sym (ap (level_key_in old) e) ∙ h)

  pub inserted : AreInSlots new
  inserted = record { leads = λ q s h. leads q s h (is_at (level_key_cmp at) q) refl; stands = λ q s h. stands q s h (eqb s slot) refl }
    where
      leads : (q : LevelKey) (s : ℕ) → slot_of new q ≡ Some s → (b : Bool) → is_at (level_key_cmp at) q ≡ b → level_key_in new s ≡ Some q
      leads q s h true e =
          let r : q ≡ at = one_level_key at q e in
          let k : slot ≡ s = same_Some _ _ (sym slot_is ∙ ap (slot_of new) (sym r) ∙ h) in
          ap (level_key_in new) (sym k) ∙ ap (option_map (λ (t : Tier). t.at)) tier_is ∙ ap Some (sym r)
      leads q s h false e =
          let l = book.leads q s (sym (slots_others q e) ∙ h) in
          ap (option_map (λ (t : Tier). t.at)) (others s (not_vacant q s l)) ∙ l

      stands : (q : LevelKey) (s : ℕ) → level_key_in new s ≡ Some q → (b : Bool) → eqb s slot ≡ b → slot_of new q ≡ Some s
      stands q s h true e =
          let k : s ≡ slot = eqb-true s slot e in
          let r : at ≡ q = same_Some _ _ (ap (option_map (λ (t : Tier). t.at)) (sym tier_is) ∙ ap (level_key_in new) (sym k) ∙ h) in
          ap (slot_of new) (sym r) ∙ slot_is ∙ ap Some (sym k)
      stands q s h false e =
          let l = book.stands q s (ap (option_map (λ (t : Tier). t.at)) (sym (others s (eqb-false s slot e))) ∙ h) in
          slots_others q (apart at q (λ r. none_some (sym none ∙ ap (slot_of old) (sym r) ∙ l))) ∙ l

  pub inserted_others : (q : LevelKey) → (q ≡ at → ⊥) → level_at new q ≡ level_at old q
  inserted_others q n = ap (level_in new.slab) (slots_others q (apart at q n)) ∙ by (slot_of old q) refl
    where
      by : (o : Option ℕ) → slot_of old q ≡ o → level_in new.slab o ≡ level_in old.slab o
      by None h = refl
      by (Some s) h = ap (option_map (λ (t : Tier). t.level)) (others s (not_vacant q s (book.leads q s h)))

-- a level is taken out of its slot

module _ (old new : LevelStore) (at : LevelKey) (slot : ℕ)
    (book : AreInSlots old) (here : slot_of old at ≡ Some slot)
    (gone : slot_of new at ≡ None) (slots_others : (q : LevelKey) → is_at (level_key_cmp at) q ≡ false → slot_of new q ≡ slot_of old q)
    (tier_gone : get new.slab slot ≡ None) (others : (k : ℕ) → (k ≡ slot → ⊥) → get new.slab k ≡ get old.slab k) where
  other_slot : (q : LevelKey) (s : ℕ) → (q ≡ at → ⊥) → level_key_in old s ≡ Some q → s ≡ slot → ⊥
  other_slot q s n h e = n (same_Some _ _ (sym h ∙ ap (level_key_in old) e ∙ book.leads at slot here))

  pub removed : AreInSlots new
  removed = record { leads = leads; stands = λ q s h. stands q s h (eqb s slot) refl }
    where
      leads : (q : LevelKey) (s : ℕ) → slot_of new q ≡ Some s → level_key_in new s ≡ Some q
      leads q s h =
          let n : q ≡ at → ⊥ = λ r. none_some (sym gone ∙ ap (slot_of new) (sym r) ∙ h) in
          let l = book.leads q s (sym (slots_others q (apart at q n)) ∙ h) in
          ap (option_map (λ (t : Tier). t.at)) (others s (other_slot q s n l)) ∙ l

      stands : (q : LevelKey) (s : ℕ) → level_key_in new s ≡ Some q → (b : Bool) → eqb s slot ≡ b → slot_of new q ≡ Some s
      stands q s h true e = absurd (none_some (ap (option_map (λ (t : Tier). t.at)) (sym tier_gone) ∙ ap (level_key_in new) (sym (eqb-true s slot e)) ∙ h))
      stands q s h false e =
          let l = book.stands q s (ap (option_map (λ (t : Tier). t.at)) (sym (others s (eqb-false s slot e))) ∙ h) in
          slots_others q (apart at q (λ r. eqb-false s slot e (same_Some _ _ (sym l ∙ ap (slot_of old) r ∙ here)))) ∙ l

  pub removed_others : (q : LevelKey) → (q ≡ at → ⊥) → level_at new q ≡ level_at old q
  removed_others q n = ap (level_in new.slab) (slots_others q (apart at q n)) ∙ by (slot_of old q) refl
    where
      by : (o : Option ℕ) → slot_of old q ≡ o → level_in new.slab o ≡ level_in old.slab o
      by None h = refl
      by (Some s) h = ap (option_map (λ (t : Tier). t.level)) (others s (other_slot q s n (book.leads q s h)))
