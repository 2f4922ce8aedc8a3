use Rattle.std.proofs.Common.{arith}
use Rattle.hx_ranked.proofs.Flat.{before-block, after-block}
use Rattle.hx_ranked.proofs.blocks.locate.Goals as goal

-- the block in the middle begins at or before the rank
pub loop-high-preserved-then-first-rank : goal.loop-high-preserved-then-first-rank
loop-high-preserved-then-first-rank c = record {
  ordered = omega arith;
  inside = c.loop-high.invariant.inside;
  before = before-block c.args.blocks.now c.requires.blocks _ c.index-blocks-middle.result (omega arith) c.index-blocks-middle.is c.args.rank (rw (← c.first.ensures) c.if-first-rank.true);
  after = c.loop-high.invariant.after;
}

-- or after it
pub loop-high-preserved : goal.loop-high-preserved
loop-high-preserved c = record {
  ordered = omega arith;
  inside = omega arith;
  before = c.loop-high.invariant.before;
  after = after-block c.args.blocks.now c.requires.blocks _ c.index-blocks-middle.result (omega arith) c.index-blocks-middle.is c.args.rank (rw (← c.first.ensures) c.if-first-rank.false);
}
