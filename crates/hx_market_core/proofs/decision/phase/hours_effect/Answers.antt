use Rattle.std.proofs.Common.{◌≡◌, ◌<◌, ◌^◌, List, ap, sym, subst, arith, rules}
use Rattle.std.specs.List.{AllByRecursion}
use Rattle.hx_itch.specs.declared.message.Feed.{Feed}
use Rattle.hx_itch.specs.Message.{feed_time}
use Rattle.hx_market_core.specs.MarketModel.{MarketState}
use Rattle.hx_market_core.proofs.FeedTimes.{code_in}
use Rattle.hx_market_core.proofs.decision.phase.hours_effect.Goals as goal

pub end_orders-requires-clause-times : goal.end_orders-requires-clause-times
end_orders-requires-clause-times g c =
    let l : c.args.time < 2 ^ 48 = let r = c.requires in omega arith in
    subst (λ (fs : List Feed). AllByRecursion (λ f. feed_time f < 2 ^ 48) fs) (sym c.in_ok-first.ensures.feed) (code_in c.args.setup.now c.args.time c.args.code l)

pub returns-clause-does : goal.returns-clause-does
returns-clause-does g c = λ counts.
    let e = c.in_ok-effect.ensures.does counts in
    let phase : c.state.inside.phase ≡ c.args.state.now.market.phase = ap (λ (v : MarketState). v.market.phase) c.state.view_is in
    search (rules, e, phase)

pub returns-clause-fit : goal.returns-clause-fit
returns-clause-fit g c = λ member. c.in_ok-effect.ensures.fit c.args.setup.now member
