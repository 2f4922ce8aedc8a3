use Rattle.std.proofs.Common.{◌≡◌, map, take}
use Rattle.hx_report.specs.Noted.{chain_mark}
use Rattle.hx_report.proofs.census.chain_marks.Given as goal

abbrev pub invariant-loop-chain : goal.invariant-loop-chain
invariant-loop-chain l = l.chains.items ≡ map (chain_mark l.market.market) (take l.chain-index l.begun)
