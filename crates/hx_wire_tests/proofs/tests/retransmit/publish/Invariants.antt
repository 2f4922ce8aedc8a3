use Rattle.std.proofs.Common.{◌≡◌}
use Rattle.hx_wire_tests.proofs.tests.retransmit.publish.Given as goal

-- the writer stays that of the log
abbrev pub invariant-loop-message : goal.invariant-loop-message
invariant-loop-message g l = l.writer.log ≡ l.log
