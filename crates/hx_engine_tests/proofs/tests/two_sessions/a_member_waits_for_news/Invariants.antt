use Rattle.std.proofs.Common.{[]}
use Rattle.hx_engine_tests.proofs.tests.two_sessions.a_member_waits_for_news.Given as goal

abbrev pub ghosts-wait_for_an_execution-V-Venue : goal.ghosts-wait_for_an_execution-V-Venue
ghosts-wait_for_an_execution-V-Venue g a = record { log = a.logs.feed.0; admitted = a.logs.admitted.0; durable = a.logs.durable.0; setup = a.setup; before = [] }

abbrev pub ghosts-wait_for_an_execution-V-Ledger : goal.ghosts-wait_for_an_execution-V-Ledger
ghosts-wait_for_an_execution-V-Ledger g a = record { name = a.blank.name; parts = a.blank.parts }
