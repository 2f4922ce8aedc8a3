use Rattle.std.proofs.Common.{◌≡◌, ◌≤◌}
use Rattle.hx_engine_tests.proofs.tests.two_sessions.read_all.Given as goal

abbrev pub invariant-loop-step : goal.invariant-loop-step
invariant-loop-step l = (l.reader.log ≡ l.fn.reader.log) × (l.count ≤ l._step)
