use Rattle.std.proofs.Common.{◌≡◌, drop}
use Rattle.hx_engine.specs.Finish.{is_any_waiting}
use Rattle.hx_engine.proofs.returned_passes.is_any_waiting.Given as goal

abbrev pub invariant-loop-pass : goal.invariant-loop-pass
invariant-loop-pass g l = is_any_waiting (drop l.pass-index l.passes) ≡ is_any_waiting l.passes
