use Rattle.std.proofs.Common.{◌≡◌, ◌+◌, ◌-◌, take, drop, sym, subst, arith}
use Rattle.hx_ranked.specs.Ranked.{IsDense}
use Rattle.hx_ranked.proofs.Dense.{dense-take}
use Rattle.hx_ranked.proofs.blocks.remove.Goals as goal

-- first the block and the one after it are mended, then the one before it and the block
pub returns-then-at-gt0-clause-dense : goal.returns-then-at-gt0-clause-dense
returns-then-at-gt0-clause-dense c h =
    let at = c.locate-at.result in
    let mended = c.join_next.new.blocks.items in
    let front = subst IsDense (sym c.remove_and_prune-entry.ensures.front) (dense-take at c.args.blocks.now.items h) in
    let retained = c.join_next.ensures.dense.keeps front (c.remove_and_prune-entry.ensures.rest h) in
    let is : at ≡ at - 1 + 1 = omega arith in
    c.join_next-then-at-gt0.ensures.dense.closes (subst (λ n. IsDense (take n mended)) is retained.0) (subst (λ n. IsDense (drop n mended)) is retained.1)
