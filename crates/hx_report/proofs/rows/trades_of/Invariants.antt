use Rattle.std.proofs.Common.{◌≡◌, ◌==◌, take, count_by}
use Rattle.hx_report.specs.Sums.{counted}
use Rattle.hx_report.proofs.rows.trades_of.Given as goal

abbrev pub invariant-loop-other : goal.invariant-loop-other
invariant-loop-other l = l.count ≡ counted (count_by (λ other. other == l.member) (take l.other-index l.traded))
