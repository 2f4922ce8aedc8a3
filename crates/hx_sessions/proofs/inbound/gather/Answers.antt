use Rattle.std.proofs.Common.{◌≡◌, [], ◌∷◌, ◌++◌, length, ap, sym, ◌∙◌, subst, inr, arith, append_assoc}
use Rattle.hx_sessions.specs.Intakes.{later_action, Means, after as then_at}
use Rattle.hx_sessions.specs.declared.intake.Action.TheVariants as action
use Rattle.hx_sessions.specs.declared.inbound.Gathered.{Gathered}
use Rattle.hx_sessions.specs.Asked.{AreMessages}
use Rattle.hx_sessions.specs.Workers.{Gathers}
use Rattle.hx_sessions.proofs.Taking.{upto_cut, upto_submit, upto_ignore, messages_more}
use Rattle.hx_sessions.proofs.inbound.gather.Goals as goal

pub loop-packet-preserved-in-Ok : goal.loop-packet-preserved-in-Ok
loop-packet-preserved-in-Ok g c =
    let inv = c.loop-packet.invariant in
    let steps = c.in-Some.ensures.steps in
    let done = c.loop-packet.yielded in
    let p = c.in-Some.packet in
    let others = c.next.new.self.rest.items in
    let u = inv.upto in
    let acts : later_action p ≡ action.Submit = sym (subst (λ x. Means x p c.packet.result) inv.live c.packet.ensures.means) ∙ c.in-Submit.is in record {
      all = append_assoc done (p ∷ []) others ∙ ap (λ l. done ++ l) (sym steps.0) ∙ inv.all;
      left = omega (arith, inv.left, steps.1, ap length steps.0);
      silent = λ e. absurd (cc (rw e at c.if-not-may_send.false));
      live = c.packet.ensures.after ∙ (ap (λ a. then_at c.loop-packet.intake a) c.in-Submit.is ∙ inv.live);
      upto = (
        u.0 ++ p.payload.items ∷ [],
        messages_more c.args.member c.now-time.result p.payload.items c.loop-packet.events.items c.add_message.new.events.items u.0 u.1 c.in-Ok.ensures.ok,
        upto_submit c.args.packets.items c.loop-packet.packet-iterator.rest.items others u.0 p u.2 steps.0 acts,
      );
    }

pub loop-packet-preserved : goal.loop-packet-preserved
loop-packet-preserved g c =
    let inv = c.loop-packet.invariant in
    let steps = c.in-Some.ensures.steps in
    let done = c.loop-packet.yielded in
    let p = c.in-Some.packet in
    let others = c.next.new.self.rest.items in
    let u = inv.upto in
    let acts : later_action p ≡ action.Ignore = sym (subst (λ x. Means x p c.packet.result) inv.live c.packet.ensures.means) ∙ c.in-Ignore.is in record {
      all = append_assoc done (p ∷ []) others ∙ ap (λ l. done ++ l) (sym steps.0) ∙ inv.all;
      left = omega (arith, inv.left, steps.1, ap length steps.0);
      silent = inv.silent;
      live = c.packet.ensures.after ∙ (ap (λ a. then_at c.loop-packet.intake a) c.in-Ignore.is ∙ inv.live);
      upto = (u.0, u.1, upto_ignore c.args.packets.items c.loop-packet.packet-iterator.rest.items others u.0 p u.2 steps.0 acts);
    }

pub returns-in-Err-clause-gathers : goal.returns-in-Err-clause-gathers
returns-in-Err-clause-gathers g c =
    let m = c.args.member in
    let packets = c.args.packets.items in
    let u = c.loop-packet.invariant.upto in
    let are = subst (λ l. AreMessages m l u.0) (sym c.in-Err.ensures.err) u.1 in
    subst (λ (r : Gathered). Gathers m packets r.events.items r.stop) (sym c.until-in-Err.ensures)
    (u.0, are, inr (upto_cut packets c.loop-packet.packet-iterator.rest.items u.0 u.2))
