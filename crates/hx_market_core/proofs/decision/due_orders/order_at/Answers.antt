use Rattle.std.proofs.Common.{◌≡◌, Option, None, sym, ◌∙◌, subst}
use Rattle.std.specs.List.{find}
use Rattle.hx_book.specs.declared.order.Order.{Order}
use Rattle.hx_rules.specs.Orders.{is_called}
use Rattle.hx_market_core.specs.Effects.{IsOnly}
use Rattle.hx_market_core.specs.MarketModel.{MarketState}
use Rattle.hx_market_core.proofs.Ending.{none_named_at, none_called_at, only_called_at}
use Rattle.hx_market_core.proofs.decision.due_orders.order_at.Goals as goal

pub returns-in_err-name : goal.returns-in_err-name
returns-in_err-name g c =
    let tokens = c.state.inside.tokens in
    let orders = g.B.Book.orders c.state.inside.book in
    rw (← c.state.view_is) (c.from_residual.ensures ∙ sym (none_named_at tokens.tokens tokens.keys c.args.index orders c.state.invariant (sym c.in_err-name.ensures.name)))

pub returns-in_err-found : goal.returns-in_err-found
returns-in_err-found g c =
    let tokens = c.state.inside.tokens in
    let orders = g.B.Book.orders c.state.inside.book in
    let name = c.in_ok-name.name in
    let none = subst (λ (v : MarketState). ◌≡◌ {A = Option Order} None (find (is_called name.member name.token) v.market.live)) (sym c.state.view_is) c.in_err-found.ensures.found in
    rw (← c.state.view_is) (c.from_residual-in_err-found.ensures ∙ sym (none_called_at tokens.tokens tokens.keys c.args.index name.member name.token orders c.state.invariant c.in_ok-name.ensures.reserved (sym none)))

pub returns : goal.returns
returns g c =
    let tokens = c.state.inside.tokens in
    let orders = g.B.Book.orders c.state.inside.book in
    let name = c.in_ok-name.name in
    let live = c.in_ok-found.found.live in
    let only = subst (λ (v : MarketState). IsOnly v.orders name.member name.token live) (sym c.state.view_is) c.in_ok-found.ensures.only in
    rw (← c.state.view_is) (sym (only_called_at tokens.tokens tokens.keys c.args.index name.member name.token orders live c.state.invariant c.in_ok-name.ensures.reserved only))
