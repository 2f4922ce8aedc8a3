use Rattle.std.proofs.Common.{◌≡◌, ◌+◌, ◌++◌, drop}
use Rattle.hx_rules.specs.Hours.{directory}
use Rattle.hx_market_core.proofs.decision.phase.tell_stocks.Given as goal

-- the replies so far, and the rest, are all
abbrev pub invariant-loop-stock : goal.invariant-loop-stock
invariant-loop-stock l = record {
  so_far : l.feed.items ++ directory l.time (l.locate + 1) (drop l.stock-index l.stocks) ≡ l.fn.feed.items ++ directory l.time 1 l.stocks;
  locate : l.locate ≡ l.stock-index;
}
