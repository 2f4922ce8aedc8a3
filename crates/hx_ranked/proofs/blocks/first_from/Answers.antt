use Rattle.std.proofs.Common.{sym, ◌∙◌}
use Rattle.hx_ranked.specs.Ranked.{is_from}
use Rattle.hx_ranked.proofs.First.{none-earlier, found-in, none-in}
use Rattle.hx_ranked.proofs.blocks.first_from.Goals as goal

-- the entries before the block rank before
pub loop-at-init : goal.loop-at-init
loop-at-init c = none-earlier c.args.rank _ c.locate-at.ensures.before

-- the block has one
pub returns-in-Some : goal.returns-in-Some
returns-in-Some c =
    sym (found-in (is_from c.args.rank) c.args.blocks.now c.loop-at.at c.index-blocks-at.result c.loop-at-test.true c.index-blocks-at.is c.loop-at.invariant c.in-Some.entry (sym c.in-Some.ensures))

-- the block has none
pub loop-at-preserved : goal.loop-at-preserved
loop-at-preserved c =
    none-in (is_from c.args.rank) c.args.blocks.now c.loop-at.at c.index-blocks-at.result c.loop-at-test.true c.index-blocks-at.is c.loop-at.invariant (sym c.first_from.ensures ∙ c.in_default.is)
