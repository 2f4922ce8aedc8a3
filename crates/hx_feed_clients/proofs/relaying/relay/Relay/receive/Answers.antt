use Rattle.std.proofs.Common.{rules, ◌≡◌, ◌∙◌, ◌<◌, List, ℕ, [], ◌∷◌, ◌++◌, Some, refl, ap, sym, subst}
use Rattle.hx_units.specs.Fields.{texts}
use Rattle.hx_reader.specs.Readings.{Reading, ready}
use Rattle.hx_feed_clients.proofs.Keeping.{comes, asked_more, retained_count, one_fewer}
use Rattle.hx_feed_clients.proofs.relaying.relay.Relay.receive.Goals as goal

pub loop-message-init : goal.loop-message-init
loop-message-init c session indices steps read =
    comes session indices steps c.args.datagram.now c.args.self.now (record { reader = c.receive.new.self; server = c.args.self.now.server }) read c.receive.ensures refl

pub loop-message-preserved : goal.loop-message-preserved
loop-message-preserved c session indices steps read =
    let is : ready c.loop-message.self.reader ≡ Some c.in-Some.message.now.items = search rules in
    let one : texts c.from_ref.result.now ≡ c.in-Some.message.now.items ∷ [] = ap texts c.from_ref.ensures.value in
    let retained = c.in_ok-append.ensures.ok in
    asked_more session indices steps c.args.datagram.now c.in-Some.message.now.items c.loop-message.self (record { reader = c.hand_out.new.self; server = c.append.new.self }) (c.loop-message.invariant session indices steps read) is c.hand_out.ensures.after
    (ap (λ s. s.messages) retained ∙ ap (λ (l : List (List ℕ)). c.loop-message.self.server.messages ++ l) one) (ap (λ s. s.session) retained)

pub loop-message-smaller : goal.loop-message-smaller
loop-message-smaller c =
    let is : ready c.loop-message.self.reader ≡ Some c.in-Some.message.now.items = search rules in
    subst (λ (r : Reading). retained_count r.window < retained_count c.loop-message.self.reader.window) (sym c.hand_out.ensures.after) (one_fewer c.loop-message.self.reader c.in-Some.message.now.items is)
