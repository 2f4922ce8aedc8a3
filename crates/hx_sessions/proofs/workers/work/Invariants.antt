use Rattle.std.proofs.Common.{◌≡◌, ℕ, List, false}
use mathlib.Core.List.{IsPrefix}
use Rattle.hx_desk.specs.Known.{known_replies}
use Rattle.hx_sessions.specs.Asked.{CarriesOn}
use Rattle.hx_sessions.specs.Frames.{Sent}
use Rattle.hx_sessions.specs.Workers.{Receiving}
use Rattle.hx_sessions.proofs.workers.work.Given as goal

abbrev pub invariant-loop : goal.invariant-loop
invariant-loop g l = record {
  pass : CarriesOn l.trader.may_send l.fn.inbox.sender.pass l.inbox.sender.pass;
  so_far : Receiving l.trader.member (g.R.Read.remaining l.fn.inbox.input) (g.R.Read.remaining l.inbox.input) l.framer l.fn.inbox.sender.pass.sent l.inbox.sender.pass.sent;
  log : l.outbox.reader.log ≡ g.V.Venue.log;
  live : l.outbox.delivery.over ≡ false;
  known : IsPrefix l.fn.outbox.reader.known l.outbox.reader.known;
  sent : (rest : List (List ℕ)) × Sent l.fn.outbox.delivery.next (known_replies g.V.Venue.setup l.trader.member l.outbox.reader.known) rest l.outbox.delivery (g.W.Write.contents l.fn.outbox.output) (g.W.Write.contents l.outbox.output);
}
