use Rattle.std.proofs.Common.{◌≡◌, ℕ, List, ◌∷◌, [], ◌++◌, Option, length, sym, ap, ◌∙◌, subst}
use Rattle.hx_members.specs.Chains.{Used, entered_used}
use Rattle.hx_refs.specs.Numbers.{Numbers}
use Rattle.hx_market_core.specs.declared.commit.execute.Arriving.{Arriving}
use Rattle.hx_market_core.specs.declared.effect.Effect.TheVariants.{Accept}
use Rattle.hx_market_core.specs.Arrivals.{CanArrive, entering}
use Rattle.hx_market_core.specs.MarketModel.{MarketState, market_state_of}
use Rattle.hx_market_core.specs.OrderKeys.{AreKeyed}
use Rattle.hx_market_core.specs.Prepared.{CanCommit}
use Rattle.hx_market_core.proofs.Arrivals.{can_enter}
use Rattle.hx_day.proofs.AfterEnter.{draws}
use Rattle.hx_market_core.proofs.OrderKeys.{keyed_pushed}
use Rattle.hx_market_core.proofs.commit.enter.accept.Goals as goal

pub invariant_of-state : goal.invariant_of-state
invariant_of-state g c =
    let s = c.state.inside in
    let xs = g.B.Book.orders s.book in
    let u : Used = entered_used c.args.effect.now.member c.args.effect.now.enter.token in
    subst (λ (us : List Used). AreKeyed us c.consume.new.self.keys xs) (sym c.consume.ensures.tokens)
    (subst (λ (ks : List (Option ℕ)). AreKeyed (s.tokens.tokens ++ u ∷ []) ks xs) (sym c.consume.ensures.keys) (keyed_pushed s.tokens.tokens s.tokens.keys u xs c.state.invariant))

pub arrive-resting-requires-clause-ready : goal.arrive-resting-requires-clause-ready
arrive-resting-requires-clause-ready g c =
    let a = c.args.effect.now in
    let s = c.state.inside in
    let now : MarketState = market_state_of (g.B.Book.orders s.book) (g.B.Book.reserved s.book) c.consume.new.self c.draw-reference.new.refs s.phase s.recorded s.trading in
    let ready : CanCommit (market_state_of (g.B.Book.orders s.book) (g.B.Book.reserved s.book) s.tokens s.refs s.phase s.recorded s.trading) c.args.fills.now c.args.left (Accept a) =
    subst (λ (v : MarketState). CanCommit v c.args.fills.now c.args.left (Accept a)) (sym c.state.view_is) c.requires.ready in
    let y : c.arriving_of-arriving.result ≡ entering (length s.tokens.tokens) c.draw-reference.result a = c.arriving_of-arriving.ensures ∙ ap (λ n. entering n c.draw-reference.result a) c.count-chain.ensures in
    subst (λ (y : Arriving). CanArrive now y.order y.immediate c.args.fills.now c.args.left) (sym y)
    (can_enter (g.B.Book.orders s.book) (g.B.Book.reserved s.book) s.tokens s.refs s.phase s.recorded s.trading a c.args.fills.now c.args.left c.draw-reference.result c.state.invariant ready c.consume.new.self c.draw-reference.new.refs c.consume.ensures.tokens c.consume.ensures.chains
    (ap (λ (n : Numbers). n.matches) c.draw-reference.ensures.drawn ∙ (draws s.refs a.member c.is_shown-shown.result).1))
