use Rattle.std.proofs.Common.{◌≡◌}
use Rattle.hx_rates.proofs.feed_log.write.Given as goal

abbrev pub invariant-loop-n : goal.invariant-loop-n
invariant-loop-n l = l.writer.log ≡ l.log
