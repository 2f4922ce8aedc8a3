use Rattle.std.proofs.Common.{◌≡◌, ◌==◌, take, count_by}
use Rattle.hx_report.specs.Sums.{counted}
use Rattle.hx_report.proofs.rows.messages_of.Given as goal

abbrev pub invariant-loop-mark : goal.invariant-loop-mark
invariant-loop-mark l = l.count ≡ counted (count_by (λ mark. mark.sender == l.member) (take l.mark-index l.marks))
