-- Level keys that compare alike are one.
use Rattle.std.proofs.Common.{◌≡◌, ℕ, Bool, true, false, Some, cond, refl, sym, ap, ◌∙◌}
use Rattle.std.specs.Ordering.{nat_cmp, ordering_then}
use Rattle.std.specs.BTreeMap.{BTreeMap, is_at, Updates}
use Rattle.std.proofs.lemmas.Bool.{false_from_ne_true}
use Rattle.std.proofs.lemmas.Map.Lookups.{CmpEqualImpliesEq, exact_pairs, exact_unsigned}
use Rattle.hx_reader.specs.declared.levels.LevelKey.{LevelKey}
use Rattle.hx_reader.specs.declared.levels.Level.{Level}
use Rattle.hx_reader.specs.Levels.{level_key_cmp, level_at}
use Rattle.hx_units.proofs.Booleans.{is_eq-true}

pub exact_level_keys : CmpEqualImpliesEq level_key_cmp
exact_level_keys a b h =
    ap (λ (p : ℕ × (ℕ × ℕ)). record { locate = p.0; side = p.1.0; price = p.1.1 })
    (exact_pairs nat_cmp (λ (x y : ℕ × ℕ). ordering_then (nat_cmp x.0 y.0) (nat_cmp x.1 y.1)) exact_unsigned
    (exact_pairs nat_cmp nat_cmp exact_unsigned exact_unsigned)
    (a.locate, (a.side, a.price)) (b.locate, (b.side, b.price)) h)

pub apart : (at q : LevelKey) → (q ≡ at → ⊥) → is_at (level_key_cmp at) q ≡ false
apart at q h = false_from_ne_true (is_at (level_key_cmp at) q) (λ t. h (sym (exact_level_keys at q (is_eq-true (level_key_cmp at q) t))))

-- a level that is written as it was
pub same_again : (old new : BTreeMap LevelKey Level) (at : LevelKey) (w : Level) → Updates level_key_cmp old new at (Some w) → level_at old at ≡ Some w → (q : LevelKey) → level_at new q ≡ level_at old q
same_again old new at w u there q = u.0 q ∙ by (is_at (level_key_cmp at) q) refl
  where
    by : (b : Bool) → is_at (level_key_cmp at) q ≡ b → cond b (Some w) (level_at old q) ≡ level_at old q
    by true t = sym there ∙ ap (level_at old) (exact_level_keys at q (is_eq-true (level_key_cmp at q) t))
    by false t = refl
