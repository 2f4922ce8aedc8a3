use Rattle.std.proofs.Common.{[]}
use Rattle.hx_engine_tests.proofs.tests.scenario.apply.Given as goal

abbrev pub ghosts-start-V-Venue : goal.ghosts-start-V-Venue
ghosts-start-V-Venue g a = record {
  log = a.ground.logs.feed.0;
  admitted = a.ground.logs.admitted.0;
  durable = a.ground.logs.durable.0;
  setup = a.ground.setup;
  before = [];
}

abbrev pub ghosts-start-V-Ledger : goal.ghosts-start-V-Ledger
ghosts-start-V-Ledger g a = record { name = a.ground.blank.name; parts = a.ground.blank.parts }
