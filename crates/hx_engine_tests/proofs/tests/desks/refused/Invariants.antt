use Rattle.std.proofs.Common.{◌≡◌, length}
use Rattle.hx_engine_tests.proofs.tests.desks.refused.Given as goal

abbrev pub invariant-loop-member : goal.invariant-loop-member
invariant-loop-member g l = (l.desk.log ≡ l.fn.desk.log) × (l.desk.published_end ≡ length l.desk.history)
