use Rattle.std.proofs.Common.{◌≡◌}
use Rattle.hx_crash_tests.proofs.tests.output.hear.Given as goal

abbrev pub invariant-loop-number : goal.invariant-loop-number
invariant-loop-number g l = l.reader.log ≡ l.fn.reader.log
