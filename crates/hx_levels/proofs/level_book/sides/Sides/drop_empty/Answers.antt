use Rattle.std.proofs.Common.{◌≡◌, ℕ, Option, Some, None, ap, true, false, sym, subst, ◌∙◌, refl, inr}
use Rattle.hx_levels.specs.Levels.{level_at, DropsEmpty}
use Rattle.std.specs.Option.{IfSome}
use Rattle.hx_levels.specs.declared.level_book.levels.Level.{Level}
use Rattle.hx_levels.specs.LevelKeys.{level_key_number}
use Rattle.hx_levels.specs.Sizes.{size_in, AreSizes}
use Rattle.hx_levels.proofs.Sizes.{sizes_gone, size_none}
use Rattle.hx_levels.proofs.level_book.sides.Sides.drop_empty.Goals as goal

pub returns-then-is_empty_at-clause-dropped : goal.returns-then-is_empty_at-clause-dropped
returns-then-is_empty_at-clause-dropped c =
    let none : level_at c.remove.new.self c.args.at ≡ None = c.remove.ensures.gone in
    subst (λ v. DropsEmpty c.args.self.now.levels v c.args.at c.args.retained) (sym c.find_best.ensures.levels)
    (record {
      others = λ q h. c.remove.ensures.others q h;
      outcome = inr (none, c.if-is_empty_at.ensures.0 refl);
      filled = λ level e m. absurd (clash level (sym none ∙ e));
      stays = λ k. absurd (no (c.if-is_retained.ensures.1 k));
    })
  where
    clash : {A : Type 0} (x : A) → None ≡ Some x → ⊥
    clash x e = cc

    no : false ≡ true → ⊥
    no e = cc

-- a level that has had no shares has no size
pub drop_size-requires : goal.drop_size-requires
drop_size-requires c = λ zero r at.
    let was = c.args.self.now in
    was.sized r ∙ ap (λ v. size_in r (level_at was.levels v)) at ∙ size_none r (level_at was.levels c.args.at) (zero_most (level_at was.levels c.args.at) c.most_at-most.ensures zero)
  where
    zero_most : {n : ℕ} (o : Option Level) → IfSome o (λ l. n ≡ l.most) → n ≡ 0 → IfSome o (λ l. l.most ≡ 0)
    zero_most None i z = tt
    zero_most (Some l) i z = sym i ∙ z

pub invariant_of-self-clause-sized : goal.invariant_of-self-clause-sized
invariant_of-self-clause-sized c =
    let was = c.args.self.now in
    subst (AreSizes c.remove.new.self) (sym c.drop_size.ensures.entries)
    (sizes_gone was.levels c.remove.new.self c.args.at (level_key_number c.args.at) was.sizes.entries c.drop_size.ensures.level_key c.remove.ensures.others was.sized c.remove.ensures.gone)
