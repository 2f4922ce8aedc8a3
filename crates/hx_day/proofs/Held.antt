-- What is held after an entry comes or goes.
use Rattle.std.proofs.Common.{◌≡◌, ℕ, Bool, true, false, cond, ◌⊎◌, ◌↔◌, List, [], IsTrue, Contains, BTreeSet, Ordering, nat_cmp, is_eq, refl, sym, ap, ◌∙◌, subst, inl, inr, true≢false, rules}
use Rattle.std.specs.Cmp.{IsTotalOrder}
use Rattle.std.specs.Cmp.Rules.{comparing}
use Rattle.std.specs.Ordering.{ordering_then}
use Rattle.std.specs.BTreeMap.{is_at}
use Rattle.std.specs.BTreeSet.{contains, Updates}
use Rattle.std.proofs.lemmas.Cmp.{tied_itself}
use Rattle.std.proofs.lemmas.Map.Lookups.{CmpEqualImpliesEq, exact_pairs, exact_unsigned}
use Rattle.std.proofs.lemmas.Map.Views.{btree_set_contains_iff}
use Rattle.hx_day.specs.Expiries.{Entry, Holds, HoldsNothing, HoldsAlso, HoldsOthers, IsEntry}
use Rattle.hx_day.proofs.Elements.{none_of_none}
use Rattle.hx_units.proofs.Booleans.{is_eq-true}

-- the order of entries in the table: by expiry, then by index
abbrev pub entry_cmp : Entry → Entry → Ordering
entry_cmp x y = ordering_then (nat_cmp x.expiry y.expiry) (nat_cmp x.index y.index)

-- the entry of this expiry and index
abbrev pub entry : (expiry index : ℕ) → Entry
entry expiry index = record { expiry = expiry; index = index }

pub total : IsTotalOrder entry_cmp
total = search (comparing, rules)

pub exact : CmpEqualImpliesEq entry_cmp
exact x y h = ap (λ (p : ℕ × ℕ). entry p.0 p.1) (exact_pairs nat_cmp nat_cmp exact_unsigned exact_unsigned (x.expiry, x.index) (y.expiry, y.index) h)

-- whether the set is asked for that entry
abbrev asked : (expiry index e p : ℕ) → Bool
asked expiry index e p = is_at (entry_cmp (entry expiry index)) (entry e p)

asked_same : (expiry index e p : ℕ) → asked expiry index e p ≡ true → IsEntry e p expiry index
asked_same expiry index e p h =
    let same = exact (entry expiry index) (entry e p) (is_eq-true (entry_cmp (entry expiry index) (entry e p)) h) in
    (ap (λ (x : Entry). x.expiry) (sym same), ap (λ (x : Entry). x.index) (sym same))

same_asked : (expiry index e p : ℕ) → IsEntry e p expiry index → asked expiry index e p ≡ true
same_asked expiry index e p h =
    let at_itself : asked expiry index expiry index ≡ true = ap is_eq (tied_itself total (entry expiry index)) in
    subst (λ x. asked expiry index x p ≡ true) (sym h.0) (subst (λ x. asked expiry index expiry x ≡ true) (sym h.1) at_itself)

pub held : (s : BTreeSet Entry) (e p : ℕ) → IsTrue (contains entry_cmp s (entry e p)) ↔ Holds s.keys e p
unfolding Holds
held s e p = btree_set_contains_iff total exact s (entry e p)

pub nothing_held : (keys : List Entry) → keys ≡ [] → HoldsNothing keys
unfolding Holds
nothing_held keys h e p m = none_of_none (entry e p) (subst (λ ks. Contains ks (entry e p)) h m)

added : (b old new : Bool) → new ≡ cond b true old → new ≡ true → (b ≡ true) ⊎ (old ≡ true)
added true old new h t = inl refl
added false old new h t = inr (sym h ∙ t)

stays : (b old new : Bool) → new ≡ cond b true old → (b ≡ true) ⊎ (old ≡ true) → new ≡ true
stays true old new h t = h
stays false old new h t = elim t [ inl e ↦ absurd (true≢false (sym e)) | inr e ↦ h ∙ e ]

left : (b old new : Bool) → new ≡ cond b false old → new ≡ true → (old ≡ true) × (b ≡ false)
left true old new h t = absurd (true≢false (sym t ∙ h))
left false old new h t = (sym h ∙ t, refl)

remains : (b old new : Bool) → new ≡ cond b false old → old ≡ true → (b ≡ true → ⊥) → new ≡ true
remains true old new h t n = absurd (n refl)
remains false old new h t n = h ∙ t

-- what an insertion leaves
pub holds_also : (old new : BTreeSet Entry) (expiry index : ℕ) → Updates entry_cmp old new (entry expiry index) true → HoldsAlso old.keys new.keys expiry index
holds_also old new expiry index u e p =
    let b = asked expiry index e p in
    let was = contains entry_cmp old (entry e p) in
    let is = contains entry_cmp new (entry e p) in (
      λ h. elim (added b was is (u.0 (entry e p)) ((held new e p).1 h)) [ inl t ↦ inr (asked_same expiry index e p t) | inr t ↦ inl ((held old e p).0 t) ],
      λ h. (held new e p).0 (stays b was is (u.0 (entry e p)) (elim h [ inl m ↦ inr ((held old e p).1 m) | inr s ↦ inl (same_asked expiry index e p s) ])),
    )

-- what a removal leaves
pub holds_others : (old new : BTreeSet Entry) (expiry index : ℕ) → Updates entry_cmp old new (entry expiry index) false → HoldsOthers old.keys new.keys expiry index
holds_others old new expiry index u e p =
    let b = asked expiry index e p in
    let was = contains entry_cmp old (entry e p) in
    let is = contains entry_cmp new (entry e p) in (
      λ h. let r = left b was is (u.0 (entry e p)) ((held new e p).1 h) in
          ((held old e p).0 r.0, λ s. true≢false (sym (same_asked expiry index e p s) ∙ r.1)),
      λ h. (held new e p).0 (remains b was is (u.0 (entry e p)) ((held old e p).1 h.0) (λ t. h.1 (asked_same expiry index e p t))),
    )
