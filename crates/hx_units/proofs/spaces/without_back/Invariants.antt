use Rattle.std.proofs.Common.{◌≡◌, length}
use Rattle.hx_units.specs.Spaces.{without_back}
use Rattle.hx_units.proofs.spaces.without_back.Given as goal

abbrev pub invariant-loop-last : goal.invariant-loop-last
invariant-loop-last l = without_back l.rest ≡ without_back l.fn.text

abbrev pub decreases-loop-last : goal.decreases-loop-last
decreases-loop-last l = length l.rest
