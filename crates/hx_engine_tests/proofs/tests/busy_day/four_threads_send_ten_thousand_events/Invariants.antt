use Rattle.std.proofs.Common.{[]}
use Rattle.hx_engine_tests.proofs.tests.busy_day.four_threads_send_ten_thousand_events.Given as goal

abbrev pub ghosts-busy_day-V-Venue : goal.ghosts-busy_day-V-Venue
ghosts-busy_day-V-Venue g a = record { log = a.logs.feed.0; admitted = a.logs.admitted.0; durable = a.logs.durable.0; setup = a.setup; before = [] }

abbrev pub ghosts-busy_day-V-Ledger : goal.ghosts-busy_day-V-Ledger
ghosts-busy_day-V-Ledger g a = record { name = a.blank.name; parts = a.blank.parts }
