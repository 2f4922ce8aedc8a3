use Rattle.hx_serve.proofs.day.serve_applied_from.Given as goal

abbrev pub ghosts-run-V-Venue : goal.ghosts-run-V-Venue
ghosts-run-V-Venue g a = record {
  log = a.exchange_parts.beginning.day.log;
  admitted = a.exchange_parts.admitted.0;
  durable = a.exchange_parts.durable.0;
  setup = a.exchange_parts.beginning.day.setup;
  before = a.exchange_parts.beginning.day.events;
}

abbrev pub ghosts-run-V-Ledger : goal.ghosts-run-V-Ledger
ghosts-run-V-Ledger g a = record {
  name = a.exchange_parts.blank.name;
  parts = a.exchange_parts.blank.parts;
}
