use Rattle.std.proofs.Common.{◌≡◌, None, take}
use Rattle.hx_ranked.specs.Ranked.{flat, first_within_of}
use Rattle.hx_ranked.proofs.blocks.first_within.Given as goal

-- the blocks so far have none
abbrev pub invariant-loop-at : goal.invariant-loop-at
invariant-loop-at l = first_within_of l.from l.last l.left l.minimum (flat (take l.at l.blocks)) ≡ None
