use Rattle.std.proofs.Common.{◌≡◌, [], subst, refl}
use Rattle.hx_desk.specs.Known.{known_replies}
use Rattle.hx_sessions.specs.Frames.{Sent}
use Rattle.hx_sessions.proofs.Going.{sent_none, sent_join, until_join, known_grows, sent_bounds}
use Rattle.hx_sessions.proofs.outbound.deliver.Goals as goal
use Rattle.hx_units.proofs.Prefixes.{prefix_self, prefix_trans}

pub loop-init : goal.loop-init
loop-init g c =
    let d = c.args.outbox.delivery in record {
      log = c.requires.log;
      live = c.requires.live;
      known = prefix_self c.args.outbox.reader.known;
      sent = (_, sent_none d.next (known_replies g.V.Venue.setup c.args.member c.args.outbox.reader.known) d (g.W.Write.contents c.args.outbox.output) refl c.requires.live c.requires.next.0 c.requires.next.1);
    }

pub round-requires-clause-next : goal.round-requires-clause-next
round-requires-clause-next g c =
    let inv = c.loop.invariant in
    let b = sent_bounds c.args.outbox.delivery.next (known_replies g.V.Venue.setup c.args.member c.loop.outbox.reader.known) inv.sent.0 c.loop.outbox.delivery _ _ inv.sent.1 in
    b

pub returns-in-Ok-false-clause-ok : goal.returns-in-Ok-false-clause-ok
returns-in-Ok-false-clause-ok g c =
    let inv = c.loop.invariant in
    let ok = c.in-Ok-false.ensures.ok in
    let none : ok.1 ≡ [] = ok.3 c.in-Ok-false.field-0-test in
    let m = c.args.member in
    let known = c.round.new.self.reader.known in
    let replies = known_replies g.V.Venue.setup m known in
    let grows = c.round.ensures.known in
    let first = c.args.outbox.delivery.next in
    let e = c.round.new.self.delivery in
    let all = sent_join first (known_replies g.V.Venue.setup m c.loop.outbox.reader.known) replies inv.sent.0 ok.1 c.loop.outbox.delivery e _ _ _
    (known_grows g.V.Venue.setup m c.loop.outbox.reader.known known grows) inv.sent.1 inv.live ok.2 in
    (ok.0, subst (λ l. Sent first replies l e (g.W.Write.contents c.args.outbox.output) (g.W.Write.contents c.round.new.self.output)) none all)

pub returns-in-Err-clause-err : goal.returns-in-Err-clause-err
returns-in-Err-clause-err g c =
    let inv = c.loop.invariant in
    let grows = c.round.ensures.known in
    until_join g.V.Venue.setup c.args.member c.args.outbox.delivery.next c.loop.outbox.reader.known c.round.new.self.reader.known inv.sent.0 c.loop.outbox.delivery c.round.new.self.delivery _ _ _ c.in-Err.stop grows inv.sent.1 inv.live c.in-Err.ensures.err

pub loop-preserved : goal.loop-preserved
loop-preserved g c =
    let inv = c.loop.invariant in
    let ok = c.in-Ok-true.ensures.ok in
    let grows = c.round.ensures.known in record {
      log = c.round.ensures.log;
      live = ok.0;
      known = prefix_trans c.args.outbox.reader.known c.loop.outbox.reader.known c.round.new.self.reader.known inv.known grows;
      sent = (
        ok.1,
        sent_join c.args.outbox.delivery.next (known_replies g.V.Venue.setup c.args.member c.loop.outbox.reader.known) (known_replies g.V.Venue.setup c.args.member c.round.new.self.reader.known) inv.sent.0 ok.1 c.loop.outbox.delivery c.round.new.self.delivery _ _ _
            (known_grows g.V.Venue.setup c.args.member c.loop.outbox.reader.known c.round.new.self.reader.known grows) inv.sent.1 inv.live ok.2,
      );
    }
