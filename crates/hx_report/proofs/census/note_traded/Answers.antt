use Rattle.std.proofs.Common.{sym, ◌∙◌, true, false, append-nil}
use Rattle.hx_report.proofs.Resting.{traders_more}
use Rattle.hx_report.proofs.census.note_traded.Goals as goal
use Rattle.hx_report.proofs.census.note_traded.Goals.{then-is_execution+in_ok-push, else-is_execution}

pub loop-member-preserved : goal.loop-member-preserved
loop-member-preserved c =
    let rs = c.args.replies.now in
    let i = c.loop-member.member-index in
    let r = c.loop-member-item.result in
    let old = c.args.traded.now.items in
    elim c.if-is_execution.branch [
      | then-is_execution+in_ok-push w ↦
          traders_more rs i r true old c.loop-member.traded.items c.if-is_execution.traded.items c.loop-member-test.true c.loop-member-item.is (sym c.is_execution.ensures ∙ w.if-is_execution.true)
          c.loop-member.invariant (rw w.traded-is w.in_ok-push.ensures.items)
      | else-is_execution w ↦
          traders_more rs i r false old c.loop-member.traded.items c.if-is_execution.traded.items c.loop-member-test.true c.loop-member-item.is (sym c.is_execution.ensures ∙ w.if-is_execution.false)
          c.loop-member.invariant (rw w.traded-is (sym (append-nil c.loop-member.traded.items)))
    ]
