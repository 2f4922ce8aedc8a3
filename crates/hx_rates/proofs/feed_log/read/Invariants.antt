use Rattle.std.proofs.Common.{◌≡◌}
use Rattle.hx_rates.proofs.feed_log.read.Given as goal

abbrev pub invariant-loop : goal.invariant-loop
invariant-loop l = l.reader.log ≡ l.log
