use Rattle.std.proofs.Common.{◌≡◌}
use Rattle.hx_mold.specs.Counting.{is_whole}
use Rattle.hx_mold.proofs.blocks.are_blocks.Given as goal

abbrev pub invariant-loop-left : goal.invariant-loop-left
invariant-loop-left l = is_whole l.left l.rest ≡ is_whole l.count l.bytes

abbrev pub decreases-loop-left : goal.decreases-loop-left
decreases-loop-left l = l.left
