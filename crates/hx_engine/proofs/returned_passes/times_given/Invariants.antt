use Rattle.std.proofs.Common.{◌≡◌, ◌+◌, ◌≤◌, drop}
use Rattle.hx_engine.specs.Finish.{times_given}
use Rattle.hx_engine.proofs.returned_passes.times_given.Given as goal

abbrev pub invariant-loop-pass : goal.invariant-loop-pass
invariant-loop-pass g l =
    (l.count + times_given l.number (drop l.pass-index l.passes) ≡ times_given l.number l.passes)
    × (l.count ≤ l.pass-index)
