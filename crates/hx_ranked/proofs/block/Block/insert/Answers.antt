use Rattle.std.proofs.Common.{ap, ◌∙◌, arith}
use Rattle.hx_ranked.specs.Ranked.{first_rank}
use Rattle.hx_ranked.proofs.Summaries.{least-inserted, most-inserted}
use Rattle.hx_ranked.proofs.block.Block.insert.Goals as goal

-- the new entry may have the smallest least execution, or the most shares
pub invariant_of-self : goal.invariant_of-self
invariant_of-self c = record {
  first_is = c.first_rank-self-inside.ensures ∙ ap first_rank c.deref.ensures.value;
  least_is = rw (c.insert.ensures.items, least-inserted c.args.entry c.self.inside.entries.items, ← c.self.invariant.least_is) c.min-self-inside.ensures;
  most_is = rw (c.insert.ensures.items, most-inserted c.args.entry c.self.inside.entries.items, ← c.self.invariant.most_is) c.max-self-inside.ensures;
  capacity = omega (arith, c.insert.ensures.capacity, c.self.invariant.capacity);
}
