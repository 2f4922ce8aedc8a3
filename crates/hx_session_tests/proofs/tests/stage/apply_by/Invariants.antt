use Rattle.std.proofs.Common.{[]}
use Rattle.hx_session_tests.proofs.tests.stage.apply_by.Given as goal

abbrev pub ghosts-apply_at-V-Venue : goal.ghosts-apply_at-V-Venue
ghosts-apply_at-V-Venue g a = record {
  log = a.ends.logs.feed.0;
  admitted = a.ends.logs.admitted.0;
  durable = a.ends.logs.durable.0;
  setup = a.setup;
  before = [];
}

abbrev pub ghosts-apply_at-V-Ledger : goal.ghosts-apply_at-V-Ledger
ghosts-apply_at-V-Ledger g a = record { name = a.ends.blank.name; parts = a.ends.blank.parts }
