use Rattle.std.proofs.Common.{[]}
use Rattle.hx_serve_tests.proofs.tests.two_parts.two_parts_at_once.Given as goal

abbrev pub ghosts-apply_day-V-Venue : goal.ghosts-apply_day-V-Venue
ghosts-apply_day-V-Venue g a = record {
  log = a.exchange_parts.logs.feed.0;
  admitted = a.exchange_parts.logs.admitted.0;
  durable = a.exchange_parts.logs.durable.0;
  setup = a.exchange_parts.own;
  before = [];
}

abbrev pub ghosts-apply_day-V-Ledger : goal.ghosts-apply_day-V-Ledger
ghosts-apply_day-V-Ledger g a = record {
  name = a.exchange_parts.blank.name;
  parts = a.exchange_parts.blank.parts;
}
