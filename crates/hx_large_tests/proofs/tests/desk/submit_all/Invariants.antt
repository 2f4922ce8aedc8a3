use Rattle.std.proofs.Common.{◌≡◌, length}
use Rattle.hx_large_tests.proofs.tests.desk.submit_all.Given as goal

abbrev pub invariant-loop-event : goal.invariant-loop-event
invariant-loop-event g l = (l.desk.log ≡ l.fn.desk.log) × (l.desk.published_end ≡ length l.desk.history)
