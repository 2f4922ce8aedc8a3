use Rattle.std.proofs.Common.{[]}
use Rattle.hx_session_tests.proofs.tests.reading.asked_beside.Given as goal

abbrev pub ghosts-read_beside-V-Venue : goal.ghosts-read_beside-V-Venue
ghosts-read_beside-V-Venue g a = record {
  log = a.ground.logs.feed.0;
  admitted = a.ground.logs.admitted.0;
  durable = a.ground.logs.durable.0;
  setup = a.ground.setup;
  before = [];
}

abbrev pub ghosts-read_beside-V-Ledger : goal.ghosts-read_beside-V-Ledger
ghosts-read_beside-V-Ledger g a = record { name = a.ground.blank.name; parts = a.ground.blank.parts }
