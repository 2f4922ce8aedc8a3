use Rattle.std.proofs.Common.{◌≡◌}
use Rattle.hx_wire_tests.proofs.tests.blog.follow.Given as goal

abbrev pub invariant-loop : goal.invariant-loop
invariant-loop l = l.reader.log ≡ l.log

abbrev pub invariant-loop-n : goal.invariant-loop-n
invariant-loop-n l = l.reader.log ≡ l.log
