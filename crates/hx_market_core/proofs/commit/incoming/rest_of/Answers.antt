use Rattle.std.proofs.Common.{◌≡◌, ℕ, ◌++◌, ◌∷◌, [], List, Option, Some, ◌∙◌, subst, sym, slice_set}
use Rattle.hx_book.specs.declared.order.Order.{Order}
use Rattle.hx_book.specs.declared.order.Key.{Key}
use Rattle.hx_book.specs.declared.order.Live.{Live}
use Rattle.hx_members.specs.Chains.{Used, index_of}
use Rattle.hx_market_core.specs.Arrivals.{CanRest}
use Rattle.hx_market_core.specs.MarketModel.{MarketState}
use Rattle.hx_market_core.specs.OrderKeys.{AreKeyed}
use Rattle.hx_market_core.proofs.OrderKeys.{keyed_rest}
use Rattle.hx_market_core.proofs.commit.incoming.rest_of.Goals as goal

-- what can rest is keyed once it rests, with `left` shares
keyed_then : (s : MarketState) (x y : Order) (left : ℕ) (key : Key) (ks ls : List (Option ℕ)) (us : List Used) (ys : List Live) → CanRest s x → AreKeyed s.market.tokens ks s.orders → y ≡ record x { shares = left }
    → us ≡ s.market.tokens → ls ≡ slice_set ks (index_of s.market.tokens y.member y.token) (Some key.0) → ys ≡ s.orders ++ (record { key = key; order = y }) ∷ [] → AreKeyed us ls ys
keyed_then s x y left key ks ls us ys ready keyed is tokens keys orders =
    let ts : List Used = s.market.tokens in
    let at : Order → Live = λ o. record { key = key; order = o } in
    let rested : AreKeyed ts (slice_set ks (index_of ts y.member y.token) (Some key.0)) (s.orders ++ at y ∷ []) =
    subst (λ (o : Order). AreKeyed ts (slice_set ks (index_of ts o.member o.token) (Some key.0)) (s.orders ++ at o ∷ [])) (sym is) (keyed_rest ts ks s.orders (at (record x { shares = left })) keyed ready.used ready.before) in
    subst (λ (us : List Used). AreKeyed us ls ys) (sym tokens) (subst (λ (ls : List (Option ℕ)). AreKeyed ts ls ys) (sym keys) (subst (λ (ys : List Live). AreKeyed ts (slice_set ks (index_of ts y.member y.token) (Some key.0)) ys) (sym orders) rested))

pub invariant_of-state : goal.invariant_of-state
invariant_of-state g c =
    let s = c.state.inside in
    let x = c.args.order.now in
    keyed_then _ x c.with_shares-rest.result c.args.left c.add-key.result s.tokens.keys _ _ _ (subst (λ (v : MarketState). CanRest v x) (sym c.state.view_is) c.requires.ready) c.state.invariant c.with_shares-rest.ensures
    (c.note.ensures.tokens ∙ c.settle.ensures.tokens) (c.note.ensures.keys ∙ c.settle.ensures.keys) c.add-key.ensures.orders

pub invariant_of-state-else-rest : goal.invariant_of-state-else-rest
invariant_of-state-else-rest g c =
    let s = c.state.inside in
    let x = c.args.order.now in
    keyed_then _ x c.with_shares-rest.result c.args.left c.add-key.result s.tokens.keys _ _ _ (subst (λ (v : MarketState). CanRest v x) (sym c.state.view_is) c.requires.ready) c.state.invariant c.with_shares-rest.ensures
    c.settle.ensures.tokens c.settle.ensures.keys c.add-key.ensures.orders
