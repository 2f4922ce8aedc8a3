use Rattle.std.proofs.Common.{◌≡◌, ◌-◌, take, sum_by}
use Rattle.hx_market.specs.Steps.{replies_among}
use Rattle.hx_report.specs.Counts.{taken_off}
use Rattle.hx_report.proofs.rest.left_by.Given as goal

abbrev pub invariant-loop-other : goal.invariant-loop-other
invariant-loop-other l = l.left ≡ l.hidden.shares - sum_by (taken_off l.hidden.token) (replies_among l.member (take l.other-index l.replies))
