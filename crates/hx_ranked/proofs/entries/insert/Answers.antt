use Rattle.std.proofs.Common.{refl, arith}
use Rattle.std.proofs.lemmas.Grind.{common_steps}
use Rattle.hx_ranked.proofs.AtIndex.{inserted-at}
use Rattle.hx_ranked.proofs.entries.insert.Goals as goal

-- there is room, so it was put in
pub returns-clause-items : goal.returns-clause-items
returns-clause-items c =
    let at = c.lower_bound-at.ensures in
    let put = inserted-at _ _ _ at.before at.after c.args.entry refl in
    grind (arith, common_steps, put, c.insert-put.ensures.items, c.insert-put.ensures.succeeds, c.requires.room, c.deref.ensures.value)
