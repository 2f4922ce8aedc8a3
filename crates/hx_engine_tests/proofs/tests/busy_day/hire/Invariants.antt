use Rattle.std.proofs.Common.{◌≡◌}
use Rattle.hx_engine_tests.proofs.tests.busy_day.hire.Given as goal

abbrev pub invariant-loop-pass : goal.invariant-loop-pass
invariant-loop-pass g l = l.reader.log ≡ l.fn.reader.log
