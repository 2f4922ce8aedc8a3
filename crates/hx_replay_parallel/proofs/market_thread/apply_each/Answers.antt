use Rattle.std.proofs.Common.{◌≡◌, ℕ, List, ◌++◌, take, drop, refl, ap, sym, subst, append_assoc, arith, ◌∙◌, suc, add-one}
use Rattle.std.proofs.lemmas.Result.{err_from_is_err_and}
use Rattle.hx_tape_lines.specs.Text.{Entry, line}
use Rattle.hx_replay.specs.Run.{Progress, Faults}
use Rattle.hx_replay_parallel.specs.Ahead.{AppliesAll}
use Rattle.hx_replay_parallel.proofs.Turning.{entry_at, applies_none, applies_one, fails_without_memory, applied_count, applies_few, applies_whole}
use Rattle.hx_replay_parallel.proofs.market_thread.apply_each.Goals as goal

pub loop-event-init : goal.loop-event-init
loop-event-init g c = λ es are. applies_none c.args.run.now (c.args.telling.now ++ c.args.recent.now) (rw (c.requires.telling, c.requires.recent) refl)

pub returns-in_err-begin_batch-clause-err : goal.returns-in_err-begin_batch-clause-err
returns-in_err-begin_batch-clause-err g c =
    let p = err_from_is_err_and c.from_residual.result c.from_residual.ensures.1 in
    rw (p.1, p.2) (λ es are. fails_without_memory c.args.run.now es c.args.events.now _ are (omega (arith, c.loop-event-test.true)))

pub apply_event-requires-clause-events : goal.apply_event-requires-clause-events
apply_event-requires-clause-events g c =
    let es = c.requires.read.0 in
    let are = c.requires.read.1 in
    omega (arith, applied_count c.args.run.now c.loop-event.run es c.args.events.now c.loop-event.event-index _ are (c.loop-event.invariant es are), c.loop-event-test.true, ap (λ (q : Progress). q.events) c.begin_batch.ensures.run)

pub apply_event-requires-clause-few : goal.apply_event-requires-clause-few
apply_event-requires-clause-few g c =
    let es = c.requires.read.0 in
    rw c.begin_batch.ensures.run (applies_few c.args.run.now c.loop-event.run _ _ (c.loop-event.invariant es c.requires.read.1) c.requires.few)

pub loop-event-preserved : goal.loop-event-preserved
loop-event-preserved g c = λ es are.
    let i = c.loop-event.event-index in
    let at = entry_at es c.args.events.now i c.event-item.result are.are_known are.events_are c.loop-event-test.true c.event-item.is in
    let one = rw c.begin_batch.ensures.run at (c.in_ok-apply_event.ensures.ok at.entry at.known at.event_is) in
    let d' = c.apply_event.new.self in
    let retained : List ℕ = c.begin_batch.new.telling in
    let output : List ℕ = c.loop-event.telling ++ c.loop-event.recent in
    let more : List ℕ = retained ++ c.apply_event.new.lines in
    let later : more ≡ output ++ one.0 = ap (λ (t : List ℕ). retained ++ t) one.2 ∙ sym (append_assoc retained c.begin_batch.new.recent one.0) ∙ ap (λ (t : List ℕ). t ++ one.0) c.in_ok-begin_batch.ensures.outputs in
    rw add-one (subst (λ (l : List Entry). AppliesAll c.args.run.now d' l more) (sym at.before)
    (applies_one c.args.run.now c.loop-event.run d' (take i es) output more at.entry (c.loop-event.invariant es are) at.known (one.0, one.1, later)))

pub returns-in_err-apply_event-clause-err : goal.returns-in_err-apply_event-clause-err
returns-in_err-apply_event-clause-err g c =
    let p = err_from_is_err_and c.from_residual-in_err-apply_event.result c.from_residual-in_err-apply_event.ensures.1 in
    let i = c.loop-event.event-index in
    rw (p.1, p.2) (λ es are.
    let at = entry_at es c.args.events.now i c.event-item.result are.are_known are.events_are c.loop-event-test.true c.event-item.is in
    let h = c.loop-event.invariant es are in
    record {
      applied = take i es;
      bad = at.entry;
      others = drop (suc i) es;
      events_are = at.all;
      are_events = h.are_events;
      faults = subst (λ (q : Progress). Faults q (line at.entry) c.in_err-apply_event.field-0.0) h.after_is (rw c.begin_batch.ensures.run at (c.in_err-apply_event.ensures.faults at.entry at.known at.event_is));
      output_is = λ other. ap (λ (t : List ℕ). c.begin_batch.new.telling ++ t) (c.in_err-apply_event.ensures.retained other) ∙ c.in_ok-begin_batch.ensures.outputs ∙ h.output_is;
    })

pub returns-clause-ok : goal.returns-clause-ok
returns-clause-ok g c = λ es are.
    applies_whole c.args.run.now c.loop-event.run es c.args.events.now c.loop-event.event-index _ are c.loop-event-test.false (c.loop-event.invariant es are)
