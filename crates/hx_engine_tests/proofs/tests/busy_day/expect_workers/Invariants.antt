use Rattle.std.proofs.Common.{◌≡◌}
use Rattle.hx_engine_tests.proofs.tests.busy_day.expect_workers.Given as goal

abbrev pub invariant-loop-worker : goal.invariant-loop-worker
invariant-loop-worker g l = l.reader.log ≡ l.fn.reader.log
