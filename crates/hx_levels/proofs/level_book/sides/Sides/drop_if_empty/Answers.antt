use Rattle.std.proofs.Common.{◌≡◌, Bool, true, false, refl, sym, ap, ◌∙◌, inl}
use Rattle.std.specs.Option.{is_some}
use Rattle.hx_levels.specs.declared.level_book.levels.Level.{Level}
use Rattle.hx_levels.specs.declared.level_book.linked_orders.Ends.{Ends}
use Rattle.hx_levels.specs.Levels.{ends_in, ends_of, IsEmptyLevel}
use Rattle.hx_levels.proofs.level_book.sides.Sides.drop_if_empty.Goals as goal

-- a level with a queue that has an order is not empty
not_empty : (shown : Bool) (ends : Ends) (level : Level) → ends ≡ ends_of shown level → is_some ends.first ≡ true → IsEmptyLevel level → ⊥
not_empty true ends level e h m = clash (sym h ∙ ap (λ (v : Ends). is_some v.first) e ∙ ap is_some m.0)
  where
    clash : true ≡ false → ⊥
    clash e = cc
not_empty false ends level e h m = clash (sym h ∙ ap (λ (v : Ends). is_some v.first) e ∙ ap is_some m.1)
  where
    clash : true ≡ false → ⊥
    clash e = cc

pub returns-then-is_some-clause-dropped : goal.returns-then-is_some-clause-dropped
returns-then-is_some-clause-dropped c =
    record {
      others = λ q h. refl;
      outcome = inl refl;
      filled = λ level e m. absurd (not_empty c.args.shown c.args.ends level (c.requires ∙ ap (ends_in c.args.shown) e) (sym c.is_some.ensures ∙ c.if-is_some.true) m);
      stays = λ k. refl;
    }
