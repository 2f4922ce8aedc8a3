use Rattle.std.proofs.Common.{◌≡◌, ◌≤◌, ◌+◌, subst, ℕ, Option, Some, None, sym, ap, ◌∙◌, refl, arith}
use Rattle.std.specs.Option.{IfNone, MatchOption}
use Rattle.hx_levels.specs.LevelKeys.{LevelKey}
use Rattle.hx_levels.specs.Levels.{level_at, IsFirstLevel}
use Rattle.hx_levels.proofs.FirstLevels.{first_key, before_second}
use Rattle.hx_levels.proofs.level_book.levels.first_from.Goals as goal

if_none : (r : Option ℕ) (Q : Type 0) → (r ≡ None → Q) → IfNone r Q
if_none None Q h = h refl
if_none (Some x) Q h = tt

empty_if : (shown hidden r : Option ℕ) → MatchOption shown (r ≡ hidden) (λ key. r ≡ Some key) → r ≡ None → (shown ≡ None) × (hidden ≡ None)
empty_if None hidden r m e = (refl, sym m ∙ e)
empty_if (Some k) hidden r m e = cc

pub returns-in-Some-first_within-clause-none : goal.returns-in-Some-first_within-clause-none
returns-in-Some-first_within-clause-none c =
    if_none c.first-in-Some-first_within.result _
    (λ e. let one = empty_if c.in-Some-first_within.level.shown.first c.in-Some-first_within.level.hidden.first c.first-in-Some-first_within.result c.first-in-Some-first_within.ensures e in
    let two = empty_if c.in-Some.level.shown.first c.in-Some.level.hidden.first c.first.result c.first.ensures c.in_default-first.is in
    let same = c.requires.single (record c.args.from { distance = c.in-Some.distance }) (record c.args.from { distance = c.in-Some-first_within.field-0-0 })
    (c.in-Some.level, c.in-Some.ensures.found.there, two) (c.in-Some-first_within.level, ap (λ (r : LevelKey). level_at c.args.levels.now (record r { distance = c.in-Some-first_within.field-0-0 })) (sym c.at.ensures) ∙ c.in-Some-first_within.ensures.found.there, one) in
    let d : c.in-Some.distance ≡ c.in-Some-first_within.field-0-0 = ap (λ (r : LevelKey). r.distance) same in
    let a = subst (λ (r : LevelKey). r.distance ≤ c.in-Some-first_within.field-0-0) c.at.ensures c.in-Some-first_within.ensures.found.above in
    absurd (omega arith))

pub returns-in-Some-first_within-clause-found : goal.returns-in-Some-first_within-clause-found
returns-in-Some-first_within-clause-found c =
    let levels = c.args.levels.now in
    let two : IsFirstLevel levels (record c.args.from { distance = c.in-Some.distance + 1 }) c.args.limit (c.in-Some-first_within.field-0-0, c.in-Some-first_within.level) =
    subst (λ r. IsFirstLevel levels r c.args.limit (c.in-Some-first_within.field-0-0, c.in-Some-first_within.level)) c.at.ensures c.in-Some-first_within.ensures.found in
    let empty = empty_if c.in-Some.level.shown.first c.in-Some.level.hidden.first c.first.result c.first.ensures c.in_default-first.is in
    let a = c.in-Some.ensures.found.above in
    let b = two.above in
    first_key levels c.args.from c.args.limit c.in-Some-first_within.field-0-0 c.in-Some-first_within.level c.first-in-Some-first_within.result
    (omega arith) two.below two.there
    (before_second levels c.args.from c.args.limit (c.in-Some.distance, c.in-Some.level) (c.in-Some-first_within.field-0-0, c.in-Some-first_within.level) c.in-Some.ensures.found empty two)
    c.first-in-Some-first_within.ensures
