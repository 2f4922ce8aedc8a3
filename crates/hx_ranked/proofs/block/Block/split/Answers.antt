use Rattle.std.proofs.Common.{arith}
use Rattle.std.proofs.lemmas.List.{take_rest}
use Rattle.hx_ranked.proofs.block.Block.split.Goals as goal

-- there is room, so what stands from the half on was moved
pub returns-clause-back : goal.returns-clause-back
returns-clause-back c =
    grind (arith, take_rest c.deref.result.now 128, c.extend_from_slice-moved.ensures.items, c.extend_from_slice-moved.ensures.succeeds, c.deref.ensures.value, c.deref.ensures.len, c.of.ensures, c.self.view_is, c.requires.empty, c.requires.full, c.self.invariant.capacity)
