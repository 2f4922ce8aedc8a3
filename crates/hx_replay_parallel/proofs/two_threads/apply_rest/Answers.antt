use Rattle.std.proofs.Common.{List, [], length, sym, ap, ◌∙◌, subst, arith}
use Rattle.std.proofs.lemmas.List.{length-append}
use Rattle.std.proofs.lemmas.Result.{err_from_is_err_and}
use Rattle.hx_rules.specs.declared.event.Event.{Event}
use Rattle.rtrb.specs.Ring.{known_items}
use Rattle.hx_replay_parallel.specs.Ahead.{IsAtTurn}
use Rattle.hx_replay_parallel.specs.Turns.{events_of}
use Rattle.hx_replay_parallel.proofs.TurnLists.{in_parts}
use Rattle.hx_replay_parallel.proofs.TurnEnds.{first_events, stops_at_turn}
use Rattle.hx_replay_parallel.proofs.two_threads.apply_rest.Goals as goal

pub returns-in_err-apply_now-clause-err : goal.returns-in_err-apply_now-clause-err
returns-in_err-apply_now-clause-err g c =
    let p = err_from_is_err_and c.from_residual.result c.from_residual.ensures.1 in
    let others = known_items c.pop_known-turn.new.self in
    let is = first_events _ c.pop_known-turn.result others c.pop_known-turn.ensures.received.1 in
    let err = rw c.events.ensures at c.in_err-apply_now.ensures.err in
    rw (p.1, p.2) (λ old all text w t. err old all text w (events_of others) (subst (λ (l : List Event). IsAtTurn old c.loop.run all w (g.W.Write.contents c.loop.writer) [] l text) is (c.loop.invariant.4 old all text w t)))

pub returns-in_err-push-clause-err : goal.returns-in_err-push-clause-err
returns-in_err-push-clause-err g c =
    let p = err_from_is_err_and c.from_residual-in_err-push.result c.from_residual-in_err-push.ensures.1 in
    let others = known_items c.pop_known-turn.new.self in
    let is = first_events _ c.pop_known-turn.result others c.pop_known-turn.ensures.received.1 in
    let ok = rw c.events.ensures at c.in_ok-apply_now.ensures.ok in
    rw (p.1, p.2) (λ old all text w t. stops_at_turn old c.apply_now.new.run all w _ (events_of others) text (ok old all text w (events_of others) (subst (λ (l : List Event). IsAtTurn old c.loop.run all w (g.W.Write.contents c.loop.writer) [] l text) is (c.loop.invariant.4 old all text w t))))

pub loop-preserved : goal.loop-preserved
loop-preserved g c =
    let popped = c.pop_known-turn.ensures.received.1 in
    let others = known_items c.pop_known-turn.new.self in
    let turn = c.pop_known-turn.result in
    let is = first_events _ turn others popped in
    let size = ap length is ∙ length-append turn.ahead (events_of others) in
    let counts = c.in_ok-apply_now.ensures.counts in
    let ok = rw c.events.ensures at c.in_ok-apply_now.ensures.ok in
    let p = in_parts c.loop.invariant.3.0 turn.ahead (events_of others) c.loop.invariant.3.1.are_known (sym is ∙ c.loop.invariant.3.1.events_are) in (
      omega (arith, c.loop.invariant.0, ap length popped),
      omega (arith, c.loop.invariant.1, size, counts.0, ap length c.events.ensures),
      counts.1,
      (p.back, p.back_are),
      λ old all text w t. ok old all text w (events_of others) (subst (λ (l : List Event). IsAtTurn old c.loop.run all w (g.W.Write.contents c.loop.writer) [] l text) is (c.loop.invariant.4 old all text w t)),
    )
