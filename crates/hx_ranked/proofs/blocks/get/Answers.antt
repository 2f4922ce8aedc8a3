use Rattle.std.proofs.Common.{◌∙◌}
use Rattle.hx_ranked.proofs.Changed.{rising-block, find-block}
use Rattle.hx_ranked.proofs.blocks.get.Goals as goal

pub get-requires : goal.get-requires
get-requires c =
    rising-block c.args.blocks.now c.requires c.locate-at.result c.index-blocks-at.result c.locate-at.ensures.inside c.index-blocks-at.is

-- the entry of the rank is in its block
pub returns : goal.returns
returns c =
    c.get.ensures ∙ find-block c.args.blocks.now c.requires c.locate-at.result c.index-blocks-at.result c.locate-at.ensures.inside c.index-blocks-at.is c.args.rank c.locate-at.ensures.before c.locate-at.ensures.after
