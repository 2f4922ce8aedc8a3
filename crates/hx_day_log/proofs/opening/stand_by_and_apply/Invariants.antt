use Rattle.std.proofs.Common.{◌≡◌}
use Rattle.hx_fenced_log.specs.JournalStates.{reported}
use Rattle.hx_day_log.specs.Events.{HasEvents}
use Rattle.hx_day_log.proofs.opening.stand_by_and_apply.Given as goal

-- the applied events are those of the lines that the reader has reported
abbrev pub invariant-loop : goal.invariant-loop
invariant-loop g l = record {
  events : HasEvents (reported g.L.Log.committed l.standby) (g.D.Replica.applied l.day);
  under : g.D.Replica.under l.day ≡ g.D.Replica.under l.fn.day;
}
