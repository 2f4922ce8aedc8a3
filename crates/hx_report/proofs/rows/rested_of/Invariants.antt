use Rattle.std.proofs.Common.{◌≡◌, ◌==◌, if◌then◌else◌, take, sum_by}
use Rattle.hx_report.specs.Sums.{counted}
use Rattle.hx_report.proofs.rows.rested_of.Given as goal

abbrev pub invariant-loop-rest : goal.invariant-loop-rest
invariant-loop-rest l = l.count ≡ counted (sum_by (λ rest. if rest.member == l.member then rest.shares else 0) (take l.rest-index l.rested))
