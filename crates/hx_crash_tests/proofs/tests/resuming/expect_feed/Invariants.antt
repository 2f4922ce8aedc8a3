use Rattle.std.proofs.Common.{◌≡◌}
use Rattle.hx_crash_tests.proofs.tests.resuming.expect_feed.Given as goal

abbrev pub invariant-loop-want : goal.invariant-loop-want
invariant-loop-want g l = l.reader.log ≡ l.fn.reader.log
