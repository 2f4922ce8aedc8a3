use Rattle.std.proofs.Common.{◌≡◌, length}
use Rattle.hx_engine_tests.proofs.tests.desks.apply.Given as goal

abbrev pub invariant-loop-order : goal.invariant-loop-order
invariant-loop-order g l = (l.desk.log ≡ l.fn.desk.log) × (l.desk.published_end ≡ length l.desk.history)
