use Rattle.hx_ranked.proofs.Flat.{none-before}
use Rattle.hx_ranked.proofs.blocks.start_of.Goals as goal

-- the entries before the block rank before `from`
pub returns-clause-passed : goal.returns-clause-passed
returns-clause-passed c last left minimum = none-before c.args.from last left minimum _ c.locate.ensures.before
