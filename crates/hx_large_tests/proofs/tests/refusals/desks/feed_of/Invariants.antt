use Rattle.std.proofs.Common.{◌≡◌}
use Rattle.hx_large_tests.proofs.tests.refusals.desks.feed_of.Given as goal

abbrev pub invariant-loop-number : goal.invariant-loop-number
invariant-loop-number g l = l.reader.log ≡ l.fn.reader.log
