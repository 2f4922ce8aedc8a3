-- No level is better than the distance stored for its stock and side, once the best of a side is found anew.
use Rattle.std.proofs.Common.{◌≡◌, ℕ, ◌+◌, ◌*◌, ◌<◌, ◌≤◌, Bool, true, false, inl, inr, eqb, cond, List, length, set, None, sym, ap, ◌∙◌, subst, arith, eqb-true, refl}
use Rattle.std.specs.Option.{IsSome, is_some}
use Rattle.std.proofs.lemmas.Bool.{true≢false, eqb-false, cases_lt}
use Rattle.std.proofs.lemmas.List.{get_or-set_other}
use Rattle.std.proofs.lemmas.Grind.{get_or-set_at}
use Rattle.hx_levels.specs.LevelKeys.{LevelKey, side_number}
use Rattle.hx_levels.specs.Levels.{LevelStore, level_at}
use Rattle.hx_levels.specs.Bests.{bound_of, NoneBetter}

same_number : (l m : ℕ) (b c : Bool) → l * 2 + cond b 1 0 ≡ m * 2 + cond c 1 0 → (l ≡ m) × (b ≡ c)
same_number l m true true h = (omega arith, refl)
same_number l m true false h = absurd (omega arith)
same_number l m false true h = absurd (omega arith)
same_number l m false false h = (omega arith, refl)

-- a level key of the same stock and side
beside : (at q : LevelKey) → side_number q ≡ side_number at → record at { distance = q.distance } ≡ q
beside at q h =
    let s = same_number q.locate at.locate q.buy at.buy h in
    ap (λ n. record { locate = n; buy = at.buy; distance = q.distance }) (sym s.0)
    ∙ ap (λ b. record { locate = q.locate; buy = b; distance = q.distance }) (sym s.1)

pub renewed : (levels : LevelStore) (distances : List ℕ) (at : LevelKey) (best : ℕ) → side_number at < length distances
    → ((d : ℕ) → d < best → level_at levels (record at { distance = d }) ≡ None)
    → NoneBetter levels distances → NoneBetter levels (set distances (side_number at) best)
renewed levels distances at best there none better = λ q s. by q s (eqb (side_number q) (side_number at)) refl
  where
    by : (q : LevelKey) → IsSome (level_at levels q) → (b : Bool) → eqb (side_number q) (side_number at) ≡ b
        → bound_of (set distances (side_number at) best) q ≤ q.distance
    by q s true e =
        let h = eqb-true (side_number q) (side_number at) e in
        subst (λ n. n ≤ q.distance) (sym (get_or-set_at distances (side_number at) (side_number q) best 4294967295 h there))
        (elim (cases_lt q.distance best) [
          | inl l ↦ absurd (true≢false (sym s ∙ ap is_some (ap (level_at levels) (sym (beside at q h)) ∙ none q.distance l)))
          | inr l ↦ l
        ])
    by q s false e =
        subst (λ n. n ≤ q.distance) (sym (get_or-set_other distances (side_number at) (side_number q) best 4294967295 (eqb-false (side_number q) (side_number at) e)))
        (better q s)
