use Rattle.hx_ranked.specs.Ranked.{flat}
use Rattle.hx_ranked.proofs.Changed.{length-without, less-by, same-by}
use Rattle.hx_ranked.proofs.ranked.RankedBlocks.remove.Goals as goal

-- there is one entry less
pub invariant_of-self : goal.invariant_of-self
invariant_of-self c =
    let less = rw (← c.remove-entry.ensures.found, ← c.remove-entry.ensures.entries) at (length-without c.args.rank (flat c.self.inside.blocks.items) c.self.invariant.blocks_are.rising) in
    record {
      blocks_are = c.remove-entry.ensures.blocks;
      dense = c.remove-entry.ensures.dense c.self.invariant.dense;
      spare_is = c.self.invariant.spare_is;
      len_is = rw c.self.invariant.len_is (less-by _ _ _ less c.if-is_some.ensures);
    }

-- or none
pub invariant_of-self-else-is_some : goal.invariant_of-self-else-is_some
invariant_of-self-else-is_some c =
    let less = rw (← c.remove-entry.ensures.found, ← c.remove-entry.ensures.entries) at (length-without c.args.rank (flat c.self.inside.blocks.items) c.self.invariant.blocks_are.rising) in
    record {
      blocks_are = c.remove-entry.ensures.blocks;
      dense = c.remove-entry.ensures.dense c.self.invariant.dense;
      spare_is = c.self.invariant.spare_is;
      len_is = rw c.self.invariant.len_is (same-by _ _ _ less c.if-is_some.ensures);
    }
