use Rattle.std.proofs.Common.{◌≡◌, ◌++◌, drop}
use Rattle.std.specs.List.{filter}
use Rattle.hx_rules.specs.Hours.{is_over}
use Rattle.hx_market_core.specs.Expiries.{orders_at}
use Rattle.hx_market_core.proofs.decision.due_orders.over_at.Given as goal

-- those that are over so far, and those at the later indices, are those at all indices
abbrev pub invariant-loop-index : goal.invariant-loop-index
invariant-loop-index g l =
    let tokens = l.state.market.tokens in
    l.orders.items ++ filter (λ x. is_over l.time x.order.life) (orders_at tokens (drop l.index-index l.indices) l.state.orders)
    ≡ filter (λ x. is_over l.time x.order.life) (orders_at tokens l.indices l.state.orders)
