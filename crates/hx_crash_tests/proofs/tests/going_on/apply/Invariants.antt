use Rattle.hx_crash_tests.proofs.tests.going_on.apply.Given as goal

abbrev pub ghosts-go_on-V-Venue : goal.ghosts-go_on-V-Venue
ghosts-go_on-V-Venue g a = record {
  log = a.ground.logs.feed.0;
  admitted = a.ground.logs.admitted.0;
  durable = a.ground.logs.durable.0;
  setup = a.ground.setup;
  before = a.recovered.events.items;
}

abbrev pub ghosts-go_on-V-Ledger : goal.ghosts-go_on-V-Ledger
ghosts-go_on-V-Ledger g a = record { name = a.ground.blank.name; parts = a.ground.blank.parts }
