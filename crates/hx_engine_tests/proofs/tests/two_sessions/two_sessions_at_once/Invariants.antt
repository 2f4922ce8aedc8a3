use Rattle.std.proofs.Common.{[]}
use Rattle.hx_engine_tests.proofs.tests.two_sessions.two_sessions_at_once.Given as goal

abbrev pub ghosts-two_at_once-V-Venue : goal.ghosts-two_at_once-V-Venue
ghosts-two_at_once-V-Venue g a = record { log = a.logs.feed.0; admitted = a.logs.admitted.0; durable = a.logs.durable.0; setup = a.setup; before = [] }

abbrev pub ghosts-two_at_once-V-Ledger : goal.ghosts-two_at_once-V-Ledger
ghosts-two_at_once-V-Ledger g a = record { name = a.blank.name; parts = a.blank.parts }
