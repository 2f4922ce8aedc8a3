use Rattle.std.proofs.Common.{◌≡◌}
use Rattle.hx_wire_tests.proofs.tests.blog.write.Given as goal

abbrev pub invariant-loop-event : goal.invariant-loop-event
invariant-loop-event l = l.writer.log ≡ l.log

abbrev pub invariant-loop-k : goal.invariant-loop-k
invariant-loop-k l = l.writer.log ≡ l.log
