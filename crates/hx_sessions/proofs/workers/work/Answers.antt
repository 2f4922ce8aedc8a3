use Rattle.std.proofs.Common.{◌≡◌, ℕ, List, [], false, refl, sym, subst, Option, IfErr, OnOk}
use Rattle.hx_desk.specs.Known.{known_replies}
use Rattle.hx_sessions.specs.declared.ending.Fault.TheVariants as faults
use Rattle.hx_sessions.specs.declared.ending.Stop.TheVariants as stops
use Rattle.hx_sessions.specs.Frames.{day_over, Sent}
use Rattle.hx_sessions.specs.Workers.{Receiving, SentUntil}
use Rattle.hx_sessions.proofs.Passes.{carries_none, carries_more}
use Rattle.hx_sessions.proofs.Taking.{receiving_none, received_here, acting_all, why_all}
use Rattle.hx_sessions.proofs.Going.{sent_none, sent_join, until_join, known_grows, sent_bounds}
use Rattle.hx_sessions.proofs.workers.work.Goals as goal
use Rattle.hx_units.proofs.Prefixes.{prefix_self, prefix_trans}

pub loop-init : goal.loop-init
loop-init g c =
    let a = g.R.Read.remaining c.args.inbox.input in
    let s = c.args.inbox.sender.pass.sent in
    let d = c.args.outbox.delivery in record {
      pass = carries_none c.args.trader.now.may_send c.args.inbox.sender.pass;
      so_far = subst (λ (f : Option (List ℕ)). Receiving c.args.trader.now.member a a f s s) (sym c.new-framer.ensures) (receiving_none c.args.trader.now.member a s);
      log = c.requires.log;
      live = c.requires.live;
      known = prefix_self c.args.outbox.reader.known;
      sent = (_, sent_none d.next (known_replies g.V.Venue.setup c.args.trader.now.member c.args.outbox.reader.known) d (g.W.Write.contents c.args.outbox.output) refl c.requires.live c.requires.next.0 c.requires.next.1);
    }

pub deliver-sent-requires-clause-next : goal.deliver-sent-requires-clause-next
deliver-sent-requires-clause-next g c =
    let inv = c.loop.invariant in
    sent_bounds c.args.outbox.delivery.next (known_replies g.V.Venue.setup c.args.trader.now.member c.loop.outbox.reader.known) inv.sent.0 c.loop.outbox.delivery _ _ inv.sent.1

pub returns-in-Err-clause-received : goal.returns-in-Err-clause-received
returns-in-Err-clause-received g c = received_here c.args.trader.now.member _ _ _ _ _ stops.PeerStopped c.loop.invariant.so_far (λ ps ds a. acting_all ps ds a)

pub returns-in-Err-clause-sent : goal.returns-in-Err-clause-sent
returns-in-Err-clause-sent g c =
    let inv = c.loop.invariant in
    let m = c.args.trader.now.member in
    let d = c.deliver-sent.result.0 in
    let known = d.reader.known in
    let setup = g.V.Venue.setup in
    let until = subst (λ r. IfErr r (SentUntil (day_over setup known) c.loop.outbox.delivery.next (known_replies setup m known) d.delivery (g.W.Write.contents c.loop.outbox.output) (g.W.Write.contents d.output))) c.in-Err.is c.deliver-sent.ensures.err in
    until_join setup m c.args.outbox.delivery.next c.loop.outbox.reader.known known inv.sent.0 c.loop.outbox.delivery d.delivery _ _ _ c.in-Err.stop c.deliver-sent.ensures.known inv.sent.1 inv.live until

pub returns-in-Err-receive-clause-received : goal.returns-in-Err-receive-clause-received
returns-in-Err-receive-clause-received g c = c.in-Err-receive.ensures.more _ _ c.loop.invariant.so_far

pub returns-in-Err-receive-clause-pass : goal.returns-in-Err-receive-clause-pass
returns-in-Err-receive-clause-pass g c = carries_more c.args.trader.now.may_send c.args.inbox.sender.pass c.loop.inbox.sender.pass c.receive.new.inbox.sender.pass c.loop.invariant.pass c.in-Err-receive.ensures.pass

pub returns-in-Err-receive-clause-sent : goal.returns-in-Err-receive-clause-sent
returns-in-Err-receive-clause-sent g c =
    let inv = c.loop.invariant in
    let m = c.args.trader.now.member in
    let d = c.deliver-sent.result.0 in
    let known = d.reader.known in
    let setup = g.V.Venue.setup in
    let first = c.args.outbox.delivery.next in
    let ok = subst (λ r. OnOk r ((d.delivery.over ≡ false) × Sent c.loop.outbox.delivery.next (known_replies setup m known) [] d.delivery (g.W.Write.contents c.loop.outbox.output) (g.W.Write.contents d.output))) c.in-Ok.is c.deliver-sent.ensures.ok in
    let grows = known_grows setup m c.loop.outbox.reader.known known c.deliver-sent.ensures.known in
    (ok.0, [], sent_join first (known_replies setup m c.loop.outbox.reader.known) (known_replies setup m known) inv.sent.0 [] c.loop.outbox.delivery d.delivery _ _ _ grows inv.sent.1 inv.live ok.1)

pub loop-preserved : goal.loop-preserved
loop-preserved g c =
    let inv = c.loop.invariant in
    let m = c.args.trader.now.member in
    let d = c.deliver-sent.result.0 in
    let known = d.reader.known in
    let setup = g.V.Venue.setup in
    let first = c.args.outbox.delivery.next in
    let ok = subst (λ r. OnOk r ((d.delivery.over ≡ false) × Sent c.loop.outbox.delivery.next (known_replies setup m known) [] d.delivery (g.W.Write.contents c.loop.outbox.output) (g.W.Write.contents d.output))) c.in-Ok.is c.deliver-sent.ensures.ok in
    let grows = known_grows setup m c.loop.outbox.reader.known known c.deliver-sent.ensures.known in record {
      pass = carries_more c.args.trader.now.may_send c.args.inbox.sender.pass c.loop.inbox.sender.pass c.receive.new.inbox.sender.pass inv.pass c.in-Ok-receive.ensures.pass;
      so_far = c.in-Ok-receive.ensures.more _ _ inv.so_far;
      log = c.deliver-sent.ensures.log;
      live = ok.0;
      known = prefix_trans c.args.outbox.reader.known c.loop.outbox.reader.known known inv.known c.deliver-sent.ensures.known;
      sent = ([], sent_join first (known_replies setup m c.loop.outbox.reader.known) (known_replies setup m known) inv.sent.0 [] c.loop.outbox.delivery d.delivery _ _ _ grows inv.sent.1 inv.live ok.1);
    }

pub returns-clause-received : goal.returns-clause-received
returns-clause-received g c = received_here c.args.trader.now.member _ _ _ _ _ (stops.Faulted faults.Turns) c.loop.invariant.so_far (λ ps ds a. why_all (g.R.Read.remaining c.loop.inbox.input) faults.Turns ps ds a)
