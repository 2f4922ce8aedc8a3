use Rattle.std.proofs.Common.{[]}
use Rattle.hx_crash_tests.proofs.tests.at_once.send_within.Given as goal

abbrev pub ghosts-two_senders-V-Venue : goal.ghosts-two_senders-V-Venue
ghosts-two_senders-V-Venue g a = record {
  log = a.ground.logs.feed.0;
  admitted = a.ground.logs.admitted.0;
  durable = a.ground.logs.durable.0;
  setup = a.ground.setup;
  before = [];
}

abbrev pub ghosts-two_senders-V-Ledger : goal.ghosts-two_senders-V-Ledger
ghosts-two_senders-V-Ledger g a = record { name = a.ground.blank.name; parts = a.ground.blank.parts }
