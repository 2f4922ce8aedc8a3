use Rattle.std.proofs.Common.{◌≡◌, Bool, true, false, ◌||◌, not, refl, ◌∙◌}
use Rattle.hx_audit.proofs.QuietTokens.{output_quiet, untold_quiet}
use Rattle.hx_audit.proofs.selection.is_quiet.Goals as goal

not_first : (d t : Bool) → not d ≡ true → not t ≡ not (d || t)
not_first true t h = absurd (let z : false ≡ true = h in cc)
not_first false t h = refl

first : (d t : Bool) → not d ≡ false → not d ≡ not (d || t)
first true t h = refl
first false t h = absurd (let z : true ≡ false = h in cc)

pub returns-then-not-facts : goal.returns-then-not-facts
returns-then-not-facts c =
    not_first c.in-Some.facts.displayed c.in-Some.facts.traded c.if-not-facts.true
    ∙ output_quiet c.args.market.now.market c.args.member c.args.token.now c.in-Some.facts c.requires c.in-Some.ensures

pub returns-else-not-facts : goal.returns-else-not-facts
returns-else-not-facts c =
    first c.in-Some.facts.displayed c.in-Some.facts.traded c.if-not-facts.false
    ∙ output_quiet c.args.market.now.market c.args.member c.args.token.now c.in-Some.facts c.requires c.in-Some.ensures

pub returns-in-None : goal.returns-in-None
returns-in-None c = untold_quiet c.args.market.now.market c.args.member c.args.token.now c.in-None.ensures
