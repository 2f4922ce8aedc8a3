use Rattle.std.proofs.Common.{◌≡◌, length, take}
use Rattle.hx_desk.specs.Entries.{restored}
use Rattle.hx_desk.proofs.desk.Desk.resume.Given as goal

abbrev pub invariant-loop-event : goal.invariant-loop-event
invariant-loop-event l = record {
  log : l.desk.log ≡ l.log;
  setup : l.desk.setup ≡ l.fn.setup;
  history : l.desk.history ≡ restored (take l.event-index l.events);
  published_end : l.desk.published_end ≡ length l.desk.history;
  reserved : l.desk.reserved ≡ 0;
}
