use Rattle.std.proofs.Common.{◌≡◌, ℕ, List, false}
use mathlib.Core.List.{IsPrefix}
use Rattle.hx_desk.specs.Known.{known_replies}
use Rattle.hx_sessions.specs.Frames.{Sent}
use Rattle.hx_sessions.proofs.outbound.deliver.Given as goal

abbrev pub invariant-loop : goal.invariant-loop
invariant-loop g l = record {
  log : l.outbox.reader.log ≡ g.V.Venue.log;
  live : l.outbox.delivery.over ≡ false;
  known : IsPrefix l.fn.outbox.reader.known l.outbox.reader.known;
  sent : (rest : List (List ℕ)) × Sent l.fn.outbox.delivery.next (known_replies g.V.Venue.setup l.member l.outbox.reader.known) rest l.outbox.delivery (g.W.Write.contents l.fn.outbox.output) (g.W.Write.contents l.outbox.output);
}
