use Rattle.std.proofs.Common.{◌∙◌, ap, sym, ◌++◌, ◌∷◌, [], ℕ}
use Rattle.hx_units.specs.Spaces.{without_back}
use Rattle.hx_units.proofs.Trimming.{without_back-space, without_back-last}
use Rattle.hx_units.proofs.spaces.without_back.Goals as goal

pub loop-last-preserved : goal.loop-last-preserved
loop-last-preserved c =
    let others = c.in-Some.others.now in
    sym (without_back-space others) ∙ ap (λ (b : ℕ). without_back (others ++ b ∷ [])) (sym c.if-last-eq32.true) ∙ ap without_back (sym c.in-Some.ensures.cases.0) ∙ c.loop-last.invariant

pub returns-else-last-eq32 : goal.returns-else-last-eq32
returns-else-last-eq32 c =
    c.in-Some.ensures.cases.0 ∙ sym (without_back-last c.in-Some.others.now c.in-Some.last.now c.if-last-eq32.false) ∙ ap without_back (sym c.in-Some.ensures.cases.0) ∙ c.loop-last.invariant
