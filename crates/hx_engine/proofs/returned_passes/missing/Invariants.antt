use Rattle.std.proofs.Common.{◌≡◌, ◌<◌, ◌≤◌, ℕ}
use Rattle.hx_engine.specs.Finish.{times_given}
use Rattle.hx_engine.proofs.returned_passes.missing.Given as goal

abbrev pub invariant-loop-number : goal.invariant-loop-number
invariant-loop-number g l = (k : ℕ) → 1 ≤ k → k < l.number → times_given k l.passes ≡ 1
