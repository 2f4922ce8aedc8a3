use Rattle.hx_ranked.specs.Ranked.{renewed, with_least}
use Rattle.std.proofs.lemmas.List.{length-map}
use Rattle.hx_ranked.proofs.Dense.{dense-set}
use Rattle.std.proofs.Common.{arith}
use Rattle.hx_ranked.proofs.Changed.{rising-block, renewed-block, are-renewed}
use Rattle.hx_ranked.proofs.blocks.renew.Goals as goal

pub renew-requires : goal.renew-requires
renew-requires c =
    rising-block c.args.blocks.now.items c.requires c.locate-at.result c.index_mut-block.result.now (rw c.deref.ensures.value at c.locate-at.ensures.inside) c.index_mut-block.ensures.value

pub returns-clause-entries : goal.returns-clause-entries
returns-clause-entries c =
    rw c.renew.ensures (renewed-block c.args.blocks.now.items c.requires c.locate-at.result c.index_mut-block.result.now (rw c.deref.ensures.value at c.locate-at.ensures.inside) c.index_mut-block.ensures.value c.args.rank (rw c.deref.ensures.value at c.locate-at.ensures.before) (rw c.deref.ensures.value at c.locate-at.ensures.after) c.args.least c.args.shares)

pub returns-clause-blocks : goal.returns-clause-blocks
returns-clause-blocks c =
    rw c.renew.ensures (are-renewed c.args.blocks.now.items c.requires c.locate-at.result c.index_mut-block.result.now (rw c.deref.ensures.value at c.locate-at.ensures.inside) c.index_mut-block.ensures.value c.args.rank (rw c.deref.ensures.value at c.locate-at.ensures.before) (rw c.deref.ensures.value at c.locate-at.ensures.after) c.args.least c.args.shares)

-- the block has the same number of entries
pub returns-clause-dense : goal.returns-clause-dense
returns-clause-dense c h =
    let b = c.index_mut-block.result.now in
    rw c.renew.ensures (dense-set c.args.blocks.now.items c.locate-at.result b (rw c.deref.ensures.value at c.locate-at.ensures.inside) c.index_mut-block.ensures.value (renewed c.args.rank c.args.least c.args.shares b) (omega (arith, length-map b (with_least c.args.rank c.args.least c.args.shares))) h)
