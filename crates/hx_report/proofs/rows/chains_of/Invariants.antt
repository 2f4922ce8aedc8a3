use Rattle.std.proofs.Common.{◌≡◌, ◌==◌, take, count_by}
use Rattle.hx_report.specs.Sums.{counted}
use Rattle.hx_report.proofs.rows.chains_of.Given as goal

abbrev pub invariant-loop-chain : goal.invariant-loop-chain
invariant-loop-chain l = l.count ≡ counted (count_by (λ chain. chain.member == l.member) (take l.chain-index l.chains))
