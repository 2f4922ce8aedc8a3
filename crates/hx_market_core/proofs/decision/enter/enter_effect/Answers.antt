use Rattle.std.proofs.Common.{◌≡◌, Option, false, sym, ap, ◌∙◌, subst}
use Rattle.std.specs.Prelude.{is_some}
use Rattle.hx_members.specs.TokenState.{TokenState}
use Rattle.hx_members.specs.Chains.{is_used}
use Rattle.hx_market_core.specs.MarketModel.{MarketState}
use Rattle.hx_market_core.proofs.Rejections.{unused_of}
use Rattle.hx_market_core.proofs.decision.enter.enter_effect.Goals as goal

pub returns-clause-fit : goal.returns-clause-fit
returns-clause-fit g c =
    let s = c.state.inside in
    let e = c.unused_enter_effect.ensures in
    let unused : is_used s.tokens.tokens c.args.member c.args.message.token ≡ false =
    unused_of _ _ (ap (λ (o : Option TokenState). is_some o) (sym c.state-2.ensures.state) ∙ sym c.is_some.ensures ∙ c.if-is_some.false) in
    record {
      is_effect = e.is_effect;
      sender = e.sender;
      suits = e.suits c.args.state.now.market.tokens c.args.state.now.market.chains (subst (λ (v : MarketState). is_used v.market.tokens c.args.member c.args.message.token ≡ false) c.state.view_is unused);
      about = e.about c.args.state.now.orders;
    }
