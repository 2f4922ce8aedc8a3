use Rattle.std.proofs.Common.{◌≡◌}
use Rattle.hx_engine_tests.proofs.tests.busy_day.read_on.Given as goal

abbrev pub invariant-loop-index : goal.invariant-loop-index
invariant-loop-index l = l.reader.log ≡ l.fn.reader.log
