use Rattle.std.proofs.Common.{◌<◌, length, [], refl, ◌∙◌}
use Rattle.std.proofs.lemmas.List.{get_or_default}
use Rattle.hx_ranked.specs.Ranked.{inserted}
use Rattle.hx_ranked.proofs.Dense.{dense-set}
use Rattle.hx_ranked.proofs.Changed.{length-inserted}
use Rattle.std.proofs.Common.{arith}
use Rattle.hx_ranked.proofs.Changed.{rising-block, inserted-block, are-inserted}
use Rattle.hx_ranked.proofs.blocks.put.Goals as goal

pub insert-requires-clause-sorted : goal.insert-requires-clause-sorted
insert-requires-clause-sorted c =
    rising-block c.args.blocks.now.items c.requires.blocks c.args.at c.index_mut-block.result.now c.requires.inside c.index_mut-block.ensures.value

pub returns-clause-entries : goal.returns-clause-entries
returns-clause-entries c =
    rw c.insert.ensures (inserted-block c.args.blocks.now.items c.requires.blocks c.args.at c.index_mut-block.result.now c.requires.inside c.index_mut-block.ensures.value c.args.entry.rank c.requires.before c.requires.after c.args.entry refl)

pub returns-clause-blocks : goal.returns-clause-blocks
returns-clause-blocks c =
    let bs = c.args.blocks.now.items in
    let b = c.index_mut-block.result.now in
    let room : length b < 256 = rw (c.index_mut-block.ensures.value ∙ get_or_default bs c.args.at b [] c.requires.inside) c.requires.room in
    rw c.insert.ensures (are-inserted bs c.requires.blocks c.args.at b c.requires.inside c.index_mut-block.ensures.value c.args.entry.rank c.requires.before c.requires.after c.args.entry refl c.requires.free room)

-- the block has grown
pub returns-clause-dense : goal.returns-clause-dense
returns-clause-dense c h =
    let b = c.index_mut-block.result.now in
    rw c.insert.ensures (dense-set c.args.blocks.now.items c.args.at b c.requires.inside c.index_mut-block.ensures.value (inserted c.args.entry b) (omega (arith, length-inserted c.args.entry b)) h)
