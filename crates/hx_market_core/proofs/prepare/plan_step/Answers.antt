use Rattle.std.proofs.Common.{◌≡◌, ◌≤◌, List, length, refl, sym, ap, ◌∙◌, subst}
use Rattle.std.specs.Option.{IfSome}
use Rattle.hx_book.specs.declared.order.Live.{Live}
use Rattle.hx_book.specs.Book.{lives}
use Rattle.hx_match.specs.declared.fills.Fill.{Fill}
use Rattle.hx_refs.specs.Numbers.{raised}
use Rattle.hx_day.specs.Expiries.{Holds}
use Rattle.hx_rules.specs.declared.event.Event.{Event}
use Rattle.hx_rules.specs.Markets.{Market}
use Rattle.hx_rules.specs.Steps.{happens, sender, with_record}
use Rattle.hx_market_core.specs.declared.effect.Effect.{Effect}
use Rattle.hx_market_core.specs.Effects.{SuitsTokens, IsOf, IsAbout, outcome_of}
use Rattle.hx_market_core.specs.Expiries.{IsEndEntered}
use Rattle.hx_market_core.specs.MarketModel.{MarketState, market_of}
use Rattle.hx_market_core.proofs.Arrivals.{whole}
use Rattle.hx_market_core.proofs.prepare.plan_step.Goals as goal

pub returns-clause-ready : goal.returns-clause-ready
returns-clause-ready g c =
    let s : MarketState = c.args.state.now in
    let v = c.state.inside in
    let e : Event = c.args.event.now in
    let book = c.plan_effect.new.book in
    let tokens = c.plan_effect.new.tokens in
    let effect : Effect = c.effect_of.new.effect in
    let m : Market = market_of (g.B.Book.orders book) tokens v.refs v.phase v.recorded c.reserve_for.new.self in
    let same : s.market ≡ m =
    ap (λ (w : MarketState). w.market) (sym c.state.view_is)
    ∙ sym (whole (lives (g.B.Book.orders book)) (lives (g.B.Book.orders v.book)) tokens.tokens v.tokens.tokens tokens.chains v.tokens.chains v.refs v.refs v.phase c.reserve_for.new.self.halted v.trading.halted c.reserve_for.new.self.executions v.trading.executions v.recorded
    (ap lives c.plan_effect.ensures.orders) c.plan_effect.ensures.tokens c.plan_effect.ensures.chains refl c.reserve_for.ensures.halted c.reserve_for.ensures.executions) in
    let orders : s.orders ≡ g.B.Book.orders book = ap (λ (w : MarketState). w.orders) (sym c.state.view_is) ∙ sym c.plan_effect.ensures.orders in
    let fit = c.in_ok-effect_of.ensures.fit in
    record {
      number = c.in_ok-next.ensures.number;
      may_record = c.in_ok-next.ensures.may_record;
      does = subst (λ (k : Market). happens c.args.setup.now (with_record e k) e ≡ outcome_of (with_record e k) effect) same (c.in_ok-effect_of.ensures.does (raised s.market.recorded (sender e)));
      fit = record {
        is_effect = fit.is_effect;
        sender = subst (λ i. IsOf i effect) (sym c.in_ok-next.ensures.number) fit.sender;
        suits = subst (λ (k : Market). SuitsTokens k.tokens k.chains effect) same fit.suits;
        about = subst (λ (xs : List Live). IsAbout xs effect) orders fit.about;
      };
      indices = c.in_ok-next-2.ensures.indices;
      has_room = subst (λ (fs : List Fill). length fs ≤ c.reserve_for.new.self.room) c.deref.ensures.value c.in_ok-reserve_for.ensures.room;
      end_entered = subst (λ n. IsEndEntered c.enter.new.self n effect) c.count.ensures (λ e is.
          subst (λ o. IfSome o (λ expiry. Holds c.enter.new.self expiry c.count.result)) (c.end_of.ensures ∙ is) c.in_ok-enter.ensures.entered);
    }
