use Rattle.hx_crash_tests.proofs.tests.resuming.go_on_from.Given as goal

abbrev pub ghosts-go_on-V-Venue : goal.ghosts-go_on-V-Venue
ghosts-go_on-V-Venue g a = record {
  log = a.logs.feed.0;
  admitted = a.logs.admitted.0;
  durable = a.logs.durable.0;
  setup = a.setup;
  before = a.recovered.events.items;
}

abbrev pub ghosts-go_on-V-Ledger : goal.ghosts-go_on-V-Ledger
ghosts-go_on-V-Ledger g a = record { name = a.blank.name; parts = a.blank.parts }
