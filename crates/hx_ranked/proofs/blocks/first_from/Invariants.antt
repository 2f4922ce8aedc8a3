use Rattle.std.proofs.Common.{◌≡◌, None, take}
use Rattle.std.specs.List.{find}
use Rattle.hx_ranked.specs.Ranked.{flat, is_from}
use Rattle.hx_ranked.proofs.blocks.first_from.Given as goal

-- the blocks so far have none
abbrev pub invariant-loop-at : goal.invariant-loop-at
invariant-loop-at l = find (is_from l.rank) (flat (take l.at l.blocks)) ≡ None
