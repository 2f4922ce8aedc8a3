use Rattle.std.proofs.Common.{◌≡◌, [], ap, ◌∙◌, sym, rules}
use Rattle.hx_rules.specs.Markets.{Market}
use Rattle.hx_rules.specs.Executions.{resting_of}
use Rattle.hx_market_core.specs.Arrivals.{filled, rested}
use Rattle.hx_market_core.proofs.Arrivals.{landed, can_rest, none_rests, resting_in}
use Rattle.hx_market_core.proofs.commit.incoming.arrive.Goals as goal

pub rest_of-requires : goal.rest_of-requires
rest_of-requires g c =
    let e = c.execute.ensures in
    record { ready = can_rest c.args.state.now c.args.arriving.now c.args.fills.now c.args.left c.requires.ready c.if-arriving.false c.execute.new.state e.market e.orders e.reserved }

pub returns-then-left-eq0-clause-market : goal.returns-then-left-eq0-clause-market
returns-then-left-eq0-clause-market g c =
    let s = c.args.state.now in
    let a = c.args.arriving.now in
    let m : Market = filled s a c.args.fills.now in
    let none : resting_of a.order a.immediate c.args.left ≡ [] = search rules in
    c.execute.ensures.market ∙ sym (none_rests m a.order.chain) ∙ ap (resting_in m a.order.chain) (sym none) ∙ landed s a c.args.fills.now c.args.left c.requires.ready

pub returns-then-arriving-clause-market : goal.returns-then-arriving-clause-market
returns-then-arriving-clause-market g c =
    let s = c.args.state.now in
    let a = c.args.arriving.now in
    let m : Market = filled s a c.args.fills.now in
    let none : resting_of a.order a.immediate c.args.left ≡ [] = search rules in
    c.execute.ensures.market ∙ sym (none_rests m a.order.chain) ∙ ap (resting_in m a.order.chain) (sym none) ∙ landed s a c.args.fills.now c.args.left c.requires.ready

pub returns-clause-market : goal.returns-clause-market
returns-clause-market g c =
    let s = c.args.state.now in
    let a = c.args.arriving.now in
    let m : Market = filled s a c.args.fills.now in
    let rests : rested m (record a.order { shares = c.args.left }) ≡ resting_in m a.order.chain (resting_of a.order a.immediate c.args.left) = search rules in
    c.rest_of.ensures.market ∙ ap (λ (z : Market). rested z (record a.order { shares = c.args.left })) c.execute.ensures.market ∙ rests ∙ landed s a c.args.fills.now c.args.left c.requires.ready
