use Rattle.std.proofs.Common.{ℕ, List}
use Rattle.hx_reader.specs.Runs.{Step}
use Rattle.hx_feed_clients.specs.Relays.{HasRead, HasTaken}
use Rattle.hx_feed_clients.proofs.Keeping.{retained_count}
use Rattle.hx_feed_clients.proofs.relaying.relay.Relay.receive.Given as goal

-- the datagram has come, and some messages were taken over
abbrev pub invariant-loop-message : goal.invariant-loop-message
invariant-loop-message l = (session : List ℕ) (indices : ℕ) (steps : List Step) → HasRead session indices steps l.fn.self → HasTaken session indices steps l.datagram l.self

-- each turn hands one out of those that have come
abbrev pub decreases-loop-message : goal.decreases-loop-message
decreases-loop-message l = retained_count l.self.reader.window
