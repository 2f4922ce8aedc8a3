use Rattle.std.proofs.Common.{◌≡◌, ℕ, ◌<◌, ◌≤◌, None, refl, sym, ap, subst, arith}
use Rattle.hx_levels.specs.LevelKeys.{LevelKey}
use Rattle.hx_levels.specs.Levels.{level_at}
use Rattle.hx_levels.specs.Bests.{NoneBetter}
use Rattle.hx_levels.proofs.Renewed.{renewed}
use Rattle.hx_levels.proofs.level_book.sides.Sides.find_best.Goals as goal
use Rattle.hx_levels.proofs.level_book.sides.Sides.find_best.Goals.{in-Some, in-None}

none_nearer : (c : goal.After-renew) (d : ℕ) → d < c.match-first_within.best → level_at c.args.self.now.levels (record c.args.at { distance = d }) ≡ None
none_nearer c d l =
    let at_best : c.at.result.distance ≡ 0 = ap (λ (r : LevelKey). r.distance) c.at.ensures in
    subst (λ (r : LevelKey). level_at c.args.self.now.levels (record r { distance = d }) ≡ None) c.at.ensures
    (elim c.match-first_within.branch [
      | in-Some w ↦ w.in-Some.ensures.found.before d (subst (λ n. n ≤ d) (sym at_best) (omega arith)) (subst (λ n. d < n) w.best-is l)
      | in-None w ↦ w.in-None.ensures.none d (subst (λ n. n ≤ d) (sym at_best) (omega arith)) (let m : d < 4294967295 = subst (λ n. d < n) w.best-is l in omega arith)
    ])

pub invariant_of-self : goal.invariant_of-self
invariant_of-self c = record {
  sized = c.args.self.now.sized;
  near = subst (NoneBetter c.args.self.now.levels) (sym c.renew.ensures)
      (renewed c.args.self.now.levels c.args.self.now.bests c.args.at c.match-first_within.best (c.if-is_at_bound.ensures.0 refl).0 (none_nearer c) c.args.self.now.near);
}
