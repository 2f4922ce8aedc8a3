-- The first order of the first level that is not empty.
use Rattle.std.proofs.Common.{◌≡◌, ℕ, ◌+◌, ◌<◌, ◌≤◌, Bool, true, false, inl, inr, eqb, Option, Some, None, refl, sym, ap, ◌∙◌, arith, eqb-true}
use Rattle.std.specs.Option.{IfSome, MatchOption}
use Rattle.std.proofs.lemmas.Bool.{true≢false, eqb-false, cases_lt}
use Rattle.hx_levels.specs.declared.level_book.levels.Level.{Level}
use Rattle.hx_levels.specs.LevelKeys.{LevelKey}
use Rattle.hx_levels.specs.Levels.{LevelStore, level_at, ends_in, first_at, IsFirstFrom, IsFirstLevel, IsEmptyLevel}

-- the first order of a level, if no level before it has one
pub first_key : (levels : LevelStore) (from : LevelKey) (limit distance : ℕ) (level : Level) (found : Option ℕ)
    → from.distance ≤ distance → distance ≤ limit → level_at levels (record from { distance = distance }) ≡ Some level
    → ((d : ℕ) (s : Bool) → from.distance ≤ d → d < distance → first_at levels from.locate from.buy d s ≡ None)
    → MatchOption level.shown.first (found ≡ level.hidden.first) (λ key. found ≡ Some key)
    → IfSome found (IsFirstFrom levels from.locate from.buy from.distance limit)
first_key levels from limit distance level found above below there before = by level.shown.first refl found
  where
    by : (first : Option ℕ) → level.shown.first ≡ first → (r : Option ℕ) → MatchOption first (r ≡ level.hidden.first) (λ key. r ≡ Some key)
        → IfSome r (IsFirstFrom levels from.locate from.buy from.distance limit)
    by first e None m = tt
    by (Some key) e (Some k) m = record {
      distance = distance;
      above = above;
      below = below;
      shown = true;
      first = ap (λ o. (ends_in true o).first) there ∙ e ∙ sym m;
      hidden = λ t. absurd (true≢false t);
      before = before;
    }
    by None e (Some k) m = record {
      distance = distance;
      above = above;
      below = below;
      shown = false;
      first = ap (λ o. (ends_in false o).first) there ∙ sym m;
      hidden = λ _. ap (λ o. (ends_in true o).first) there ∙ e;
      before = before;
    }

-- there is no order before the second level, if the first is empty
pub before_second : (levels : LevelStore) (from : LevelKey) (limit : ℕ) (e f : ℕ × Level) → IsFirstLevel levels from limit e → IsEmptyLevel e.1
    → IsFirstLevel levels (record from { distance = e.0 + 1 }) limit f
    → (d : ℕ) (s : Bool) → from.distance ≤ d → d < f.0 → first_at levels from.locate from.buy d s ≡ None
before_second levels from limit e f one empty two d s a l = elim (cases_lt d e.0) [
  | inl m ↦ ap (λ o. (ends_in s o).first) (one.before d a m)
  | inr m ↦ by (eqb d e.0) refl m
]
  where
    none : (t : Bool) → (ends_in t (Some e.1)).first ≡ None
    none true = empty.0
    none false = empty.1

    by : (b : Bool) → eqb d e.0 ≡ b → e.0 ≤ d → first_at levels from.locate from.buy d s ≡ None
    by true h m = ap (λ n. first_at levels from.locate from.buy n s) (eqb-true d e.0 h) ∙ ap (λ o. (ends_in s o).first) one.there ∙ none s
    by false h m = let n : d ≡ e.0 → ⊥ = eqb-false d e.0 h in ap (λ o. (ends_in s o).first) (two.before d (omega (arith, n, m)) l)
