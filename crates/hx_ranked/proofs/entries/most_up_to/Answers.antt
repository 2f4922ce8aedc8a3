use Rattle.std.proofs.Common.{arith}
use Rattle.std.proofs.lemmas.List.{drop_all}
use Rattle.hx_ranked.proofs.entries.most_up_to.Goals as goal

-- nothing is left
pub returns : goal.returns
returns c =
    let h = rw (drop_all c.loop-entry.entry-index c.args.entries.now (omega arith)) at c.loop-entry.invariant in
    grind (arith, h)
