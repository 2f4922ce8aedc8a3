use Rattle.std.proofs.Common.{[]}
use Rattle.hx_crash_tests.proofs.tests.busy.an_exchange_is_busy_while_a_record_is_written.Given as goal

abbrev pub ghosts-look_at_one_who_writes-V-Venue : goal.ghosts-look_at_one_who_writes-V-Venue
ghosts-look_at_one_who_writes-V-Venue g a = record {
  log = a.ground.logs.feed.0;
  admitted = a.ground.logs.admitted.0;
  durable = a.ground.logs.durable.0;
  setup = a.ground.setup;
  before = [];
}

abbrev pub ghosts-look_at_one_who_writes-V-Ledger : goal.ghosts-look_at_one_who_writes-V-Ledger
ghosts-look_at_one_who_writes-V-Ledger g a = record { name = a.ground.blank.name; parts = a.ground.blank.parts }
