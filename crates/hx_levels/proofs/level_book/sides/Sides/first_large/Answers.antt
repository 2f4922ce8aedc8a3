use Rattle.std.proofs.Common.{◌≡◌, ℕ, Option, Some, None, sym, ap, arith}
use Rattle.std.specs.Option.{MatchOption}
use Rattle.hx_levels.specs.Levels.{ends_in}
use Rattle.hx_levels.proofs.FirstLevels.{first_key}
use Rattle.hx_levels.proofs.level_book.sides.Sides.first_large.Goals as goal

-- there is no level
pub returns-in_default : goal.returns-in_default
returns-in_default c = record {
  begin = c.args.from.distance;
  above = omega arith;
  small = λ d a b l. absurd (omega arith);
  found = tt;
  none = λ d s a l. ap (λ o. (ends_in s o).first) (c.in_default.ensures.none d a l);
}

same_first : (shown hidden : Option ℕ) (key : ℕ) → MatchOption shown (hidden ≡ Some key) (λ first. first ≡ key) → MatchOption shown (Some key ≡ hidden) (λ first. Some key ≡ Some first)
same_first None hidden key m = sym m
same_first (Some first) hidden key m = ap Some (sym m)

-- the first level is large enough
pub returns-in-Some-first_if : goal.returns-in-Some-first_if
returns-in-Some-first_if c =
    let was = c.args.self.now in
    let first = c.in-Some.ensures.found in
    record {
      begin = c.args.from.distance;
      above = omega arith;
      small = λ d a b l. absurd (omega arith);
      found = first_key was.levels c.args.from c.args.limit c.in-Some.field-0-0 c.in-Some.level (Some c.in-Some-first_if.key) first.above first.below first.there
          (λ d s a l. ap (λ o. (ends_in s o).first) (first.before d a l))
          (same_first c.in-Some.level.shown.first c.in-Some.level.hidden.first c.in-Some-first_if.key c.in-Some-first_if.ensures);
      none = tt;
    }
