use Rattle.std.proofs.Common.{[], ◌∷◌, ◌++◌, ap, sym, ◌∙◌}
use Rattle.hx_rules.specs.declared.event.Event.{Event}
use Rattle.hx_audit.proofs.QuietTokens.{retained_more, left_out, all_retained}
use Rattle.hx_audit.proofs.selection.keep.Goals as goal
use Rattle.hx_audit.proofs.selection.keep.Goals.{then-not-is_borne+in_ok-copy+in_ok-push, else-not-is_borne}

pub loop-event-preserved : goal.loop-event-preserved
loop-event-preserved g c =
    let s = g.S.Selection.chosen c.args.selection.now in
    let xs = c.args.events.now in
    let i = c.loop-event.event-index in
    let x = c.event-item.result in
    elim c.if-not-is_borne.branch [
      | then-not-is_borne+in_ok-copy+in_ok-push w ↦
          let new = w.in_ok-push.ensures.items ∙ ap (λ (y : Event). c.loop-event.retained.items ++ y ∷ []) w.in_ok-copy.ensures.equal in
          rw (w.retained-is, new)
          (retained_more s xs i x c.loop-event.retained.items _ c.loop-event-test.true c.event-item.is (sym (c.is_borne.ensures ∙ c.of.ensures s) ∙ w.if-not-is_borne.true) c.loop-event.invariant)
      | else-not-is_borne w ↦
          rw w.retained-is
          (left_out s xs i x c.loop-event.retained.items _ c.loop-event-test.true c.event-item.is (sym (c.is_borne.ensures ∙ c.of.ensures s) ∙ w.if-not-is_borne.false) c.loop-event.invariant)
    ]

pub returns : goal.returns
returns g c =
    all_retained (g.S.Selection.chosen c.args.selection.now) c.args.events.now c.loop-event.event-index c.loop-event.retained.items _ c.loop-event-test.false c.loop-event.invariant
