use Rattle.std.proofs.Common.{◌≡◌, ap, rules}
use Rattle.hx_market_core.specs.MarketModel.{MarketState}
use Rattle.hx_market_core.proofs.decision.end_orders.tick_effect.Goals as goal

pub returns-clause-does : goal.returns-clause-does
returns-clause-does g c = λ counts.
    let e = c.in_ok-effect.ensures.does counts in
    let phase : c.state.inside.phase ≡ c.args.state.now.market.phase = ap (λ (v : MarketState). v.market.phase) c.state.view_is in
    search (rules, e, phase)

pub returns-clause-fit : goal.returns-clause-fit
returns-clause-fit g c = λ member. c.in_ok-effect.ensures.fit c.args.setup.now member
