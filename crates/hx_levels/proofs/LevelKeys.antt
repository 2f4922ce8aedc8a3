-- LevelKeys that compare alike are one.
use Rattle.std.proofs.Common.{◌≡◌, ℕ, ◌≤◌, Bool, true, false, refl, sym, ap, ◌∙◌}
use Rattle.std.specs.Ordering.{nat_cmp, bool_cmp, ordering_then}
use Rattle.std.specs.BTreeMap.{is_at}
use Rattle.std.proofs.lemmas.Bool.{false_from_ne_true}
use Rattle.std.proofs.lemmas.Map.Lookups.{CmpEqualImpliesEq, exact_pairs, exact_unsigned}
use Rattle.hx_levels.specs.LevelKeys.{LevelKey, level_key_cmp}
use Rattle.hx_units.proofs.Booleans.{is_eq-true}

exact_bool : CmpEqualImpliesEq bool_cmp
exact_bool true true h = refl
exact_bool true false h = cc
exact_bool false true h = cc
exact_bool false false h = refl

pub exact_level_keys : CmpEqualImpliesEq level_key_cmp
exact_level_keys a b h =
    ap (λ (p : ℕ × (Bool × ℕ)). record { locate = p.0; buy = p.1.0; distance = p.1.1 })
    (exact_pairs nat_cmp (λ (x y : Bool × ℕ). ordering_then (bool_cmp x.0 y.0) (nat_cmp x.1 y.1)) exact_unsigned
    (exact_pairs bool_cmp nat_cmp exact_bool exact_unsigned)
    (a.locate, (a.buy, a.distance)) (b.locate, (b.buy, b.distance)) h)

pub apart : (at q : LevelKey) → (q ≡ at → ⊥) → is_at (level_key_cmp at) q ≡ false
apart at q h = false_from_ne_true (is_at (level_key_cmp at) q) (λ t. h (sym (exact_level_keys at q (is_eq-true (level_key_cmp at q) t))))

pub one_level_key : (at q : LevelKey) → is_at (level_key_cmp at) q ≡ true → q ≡ at
one_level_key at q t = sym (exact_level_keys at q (is_eq-true (level_key_cmp at q) t))
