use Rattle.hx_rates.proofs.exchange_parts.open_and_measure.Given as goal

abbrev pub ghosts-run-V-Venue : goal.ghosts-run-V-Venue
ghosts-run-V-Venue g a = record {
  log = a.exchange_parts.logs.feed.0;
  admitted = a.exchange_parts.logs.admitted.0;
  durable = a.exchange_parts.logs.durable.0;
  setup = a.exchange_parts.setup;
  before = a.exchange_parts.recovered.events.items;
}

abbrev pub ghosts-run-V-Ledger : goal.ghosts-run-V-Ledger
ghosts-run-V-Ledger g a = record {
  name = a.exchange_parts.blank.name;
  parts = a.exchange_parts.blank.parts;
}
