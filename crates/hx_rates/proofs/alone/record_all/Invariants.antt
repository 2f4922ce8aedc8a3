use Rattle.std.proofs.Common.{◌≡◌, length}
use Rattle.hx_rates.proofs.alone.record_all.Given as goal

abbrev pub invariant-loop-event : goal.invariant-loop-event
invariant-loop-event l = (l.desk.log ≡ l.log) × (l.desk.published_end ≡ length l.desk.history)
