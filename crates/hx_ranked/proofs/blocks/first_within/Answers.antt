use Rattle.std.proofs.Common.{sym, ◌∙◌}
use Rattle.hx_ranked.proofs.Flat.{none-qualifies, after-block, found-here, none-more, none-rest}
use Rattle.hx_ranked.proofs.Changed.{rising-block}
use Rattle.hx_ranked.proofs.blocks.first_within.Goals as goal

-- the block begins after the last rank
pub returns-then-last-first : goal.returns-then-last-first
returns-then-last-first c =
    sym (none-rest c.args.from c.args.last c.args.left c.args.minimum c.args.blocks.now c.loop-at.at c.loop-at.invariant (after-block c.args.blocks.now c.requires c.loop-at.at c.index-blocks-at.result c.loop-at-test.true c.index-blocks-at.is c.args.last (rw (← c.first.ensures) c.if-last-first.true)))

-- the block has one
pub returns-in-Some : goal.returns-in-Some
returns-in-Some c =
    sym (found-here c.args.from c.args.last c.args.left c.args.minimum c.args.blocks.now c.loop-at.at c.index-blocks-at.result c.loop-at-test.true c.index-blocks-at.is c.loop-at.invariant c.in-Some.entry (sym c.in-Some.ensures))

-- the block has none
pub loop-at-preserved : goal.loop-at-preserved
loop-at-preserved c =
    none-more c.args.from c.args.last c.args.left c.args.minimum c.args.blocks.now c.loop-at.at c.index-blocks-at.result c.loop-at-test.true c.index-blocks-at.is c.loop-at.invariant (sym c.first_within.ensures ∙ c.in_default.is)

pub first_within-requires : goal.first_within-requires
first_within-requires c =
    rising-block c.args.blocks.now c.requires c.loop-at.at c.index-blocks-at.result c.loop-at-test.true c.index-blocks-at.is

-- no entry of the block qualifies
pub loop-at-preserved-then-not-may_qualify : goal.loop-at-preserved-then-not-may_qualify
loop-at-preserved-then-not-may_qualify c =
    none-more c.args.from c.args.last c.args.left c.args.minimum c.args.blocks.now c.loop-at.at c.index-blocks-at.result c.loop-at-test.true c.index-blocks-at.is c.loop-at.invariant (none-qualifies c.args.from c.args.last c.args.left c.args.minimum c.index-blocks-at.result (sym c.if-not-may_qualify.ensures))
