use Rattle.std.proofs.Common.{◌≡◌, List, [], true, sym, ◌∙◌, refl, subst}
use Rattle.hx_rules.specs.declared.event.Event.{Event}
use Rattle.hx_engine.specs.Passes.{PassState}
use Rattle.hx_sessions.specs.Asked.{CarriesOn, SendsSome}
use Rattle.hx_sessions.proofs.Taking.{sends_none}
use Rattle.hx_sessions.proofs.Passes.{IsLeft, carries_none, turn_on, turn_off}
use Rattle.hx_sessions.proofs.inbound.submit_all.Goals as goal

pub turns-init : goal.turns-init
turns-init g c = record {
  pass = carries_none true c.args.sender.now.pass;
  sent = ([], refl, sends_none c.args.sender.now.pass.sent);
}

pub returns-in-Err-clause-pass : goal.returns-in-Err-clause-pass
returns-in-Err-clause-pass g c =
    let i = c.turns.invariant in
    subst (λ (p : PassState). CarriesOn true c.args.sender.now.pass p) (sym c.owe.ensures)
    (turn_off g.V.Venue.setup c.args.sender.now.pass c.turns.sender.pass c.submit_all-done.new.pass c.args.events.items c.turns.left.items c.in-Err.field-0-1 i.pass i.sent c.in-Err.ensures.err).0

pub returns-in-Err-clause-err : goal.returns-in-Err-clause-err
returns-in-Err-clause-err g c =
    let i = c.turns.invariant in
    subst (λ (p : PassState). SendsSome c.args.sender.now.pass.sent p.sent c.args.events.items) (sym c.owe.ensures)
    (turn_off g.V.Venue.setup c.args.sender.now.pass c.turns.sender.pass c.submit_all-done.new.pass c.args.events.items c.turns.left.items c.in-Err.field-0-1 i.pass i.sent c.in-Err.ensures.err).1

pub turns-preserved-then-not-is_empty : goal.turns-preserved-then-not-is_empty
turns-preserved-then-not-is_empty g c =
    let i = c.turns.invariant in
    let n = turn_on g.V.Venue.setup c.args.sender.now.pass c.turns.sender.pass c.submit_all-done.new.pass c.args.events.items c.turns.left.items c.in-Ok.submitted.rest.items c.in-Ok.submitted.done i.pass i.sent c.in-Ok.ensures.ok in
    let is = c.rest.ensures ∙ c.owe.ensures in
    record {
      pass = subst (λ (p : PassState). CarriesOn true c.args.sender.now.pass p) (sym is) n.0;
      sent = subst (λ (p : PassState). IsLeft c.args.sender.now.pass p c.args.events.items c.in-Ok.submitted.rest.items) (sym is) n.1;
    }

pub turns-preserved : goal.turns-preserved
turns-preserved g c =
    let i = c.turns.invariant in
    let n = turn_on g.V.Venue.setup c.args.sender.now.pass c.turns.sender.pass c.submit_all-done.new.pass c.args.events.items c.turns.left.items c.in-Ok.submitted.rest.items c.in-Ok.submitted.done i.pass i.sent c.in-Ok.ensures.ok in
    record {
      pass = subst (λ (p : PassState). CarriesOn true c.args.sender.now.pass p) (sym c.owe.ensures) n.0;
      sent = subst (λ (p : PassState). IsLeft c.args.sender.now.pass p c.args.events.items c.in-Ok.submitted.rest.items) (sym c.owe.ensures) n.1;
    }
