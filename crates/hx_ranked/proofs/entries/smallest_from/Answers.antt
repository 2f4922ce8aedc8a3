use Rattle.std.proofs.Common.{arith}
use Rattle.std.proofs.lemmas.List.{drop_all}
use Rattle.hx_ranked.proofs.Lists.{smallest_least-le}
use Rattle.hx_ranked.proofs.entries.smallest_from.Goals as goal

pub loop-entry-init : goal.loop-entry-init
loop-entry-init c = record { fits = omega arith; least = omega (arith, smallest_least-le c.args.entries.now) }

-- nothing is left, and no least execution is above the largest number
pub returns : goal.returns
returns c =
    let h = rw (drop_all c.loop-entry.entry-index c.args.entries.now (omega arith)) at c.loop-entry.invariant.least in
    grind (arith, h, smallest_least-le c.args.entries.now)
