use Rattle.std.proofs.Common.{ℕ, ◌-◌, ap, sym, ◌∙◌}
use Rattle.hx_report.proofs.Resting.{left_less, left_same}
use Rattle.hx_report.proofs.rest.left_by.Goals as goal
use Rattle.hx_report.proofs.rest.left_by.Goals.{then-eq, else-eq}

pub loop-other-preserved : goal.loop-other-preserved
loop-other-preserved c =
    let m = c.args.member in
    let h = c.args.hidden.now in
    let rs = c.args.replies.now in
    let i = c.loop-other.other-index in
    let r = c.loop-other-item.result in
    elim c.if-eq.branch [
      | then-eq w ↦
          left_less m h rs i r c.loop-other.left c.if-eq.left c.loop-other-test.true c.loop-other-item.is (sym c.eq.ensures ∙ w.if-eq.true) c.loop-other.invariant
          (w.left-is ∙ w.saturating_sub-left.ensures ∙ ap (λ (n : ℕ). c.loop-other.left - n) w.taken_off.ensures)
      | else-eq w ↦ rw w.left-is (left_same m h rs i r c.loop-other.left c.loop-other-test.true c.loop-other-item.is (sym c.eq.ensures ∙ w.if-eq.false) c.loop-other.invariant)
    ]
