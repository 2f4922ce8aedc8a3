use Rattle.std.proofs.Common.{[]}
use Rattle.hx_engine_tests.proofs.tests.waking.wake_at.Given as goal

abbrev pub ghosts-wake-V-Venue : goal.ghosts-wake-V-Venue
ghosts-wake-V-Venue g a = record { log = a.logs.feed.0; admitted = a.logs.admitted.0; durable = a.logs.durable.0; setup = a.setup; before = [] }

abbrev pub ghosts-wake-V-Ledger : goal.ghosts-wake-V-Ledger
ghosts-wake-V-Ledger g a = record { name = a.blank.name; parts = a.blank.parts }
