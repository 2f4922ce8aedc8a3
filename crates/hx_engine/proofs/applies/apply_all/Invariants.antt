use Rattle.std.proofs.Common.{◌≡◌, ◌++◌, take}
use Rattle.hx_engine.proofs.applies.apply_all.Given as goal

abbrev pub invariant-loop-event : goal.invariant-loop-event
invariant-loop-event g l = record {
  applied : g.D.Applies.applied l.day ≡ g.D.Applies.applied l.fn.day ++ take l.event-index l.events;
  under : g.D.Applies.under l.day ≡ g.D.Applies.under l.fn.day;
}
