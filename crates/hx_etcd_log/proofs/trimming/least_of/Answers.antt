use Rattle.std.specs.Prelude.{Option}
use Rattle.std.proofs.Common.{◌+◌, ℕ, take, sym, subst}
use Rattle.hx_etcd_log.proofs.Trims.{SoFar, one_more}
use Rattle.hx_etcd_log.proofs.trimming.least_of.Goals as goal

pub loop-count-preserved : goal.loop-count-preserved
loop-count-preserved c =
    subst (λ (l : Option ℕ). SoFar (take (c.loop-count.count-index + 1) c.args.counts.now) l) (sym c.lesser-least.ensures)
    (one_more c.args.counts.now c.loop-count.count-index c.in-Some.count c.loop-count.least c.loop-count-test.true c.in-Some.is c.loop-count.invariant)
