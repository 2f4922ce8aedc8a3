use Rattle.std.proofs.Common.{ap, length, arith}
use Rattle.hx_ranked.specs.Ranked.{flat}
use Rattle.hx_ranked.proofs.Changed.{length-inserted}
use Rattle.hx_ranked.proofs.ranked.RankedBlocks.insert.Goals as goal

-- there is one entry more
pub invariant_of-self : goal.invariant_of-self
invariant_of-self c = record {
  blocks_are = c.insert.ensures.blocks;
  dense = c.insert.ensures.dense c.self.invariant.dense;
  spare_is = c.insert.ensures.spare;
  len_is = omega (arith, ap length c.insert.ensures.entries, length-inserted c.args.entry (flat c.self.inside.blocks.items), c.self.invariant.len_is);
}
