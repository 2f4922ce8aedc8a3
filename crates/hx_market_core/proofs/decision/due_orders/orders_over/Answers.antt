use Rattle.std.proofs.Common.{◌≡◌, List, IfOk, refl, ap, ◌∙◌, subst}
use Rattle.std.specs.List.{filter}
use Rattle.hx_book.specs.declared.order.Live.{Live}
use Rattle.hx_book.specs.declared.order.Order.{Order}
use Rattle.hx_book.specs.Book.{lives}
use Rattle.hx_rules.specs.Hours.{is_over}
use Rattle.hx_market_core.specs.Expiries.{AreEntered, orders_at}
use Rattle.hx_market_core.specs.MarketModel.{MarketState}
use Rattle.hx_market_core.proofs.Ending.{over_are}
use Rattle.hx_market_core.proofs.decision.due_orders.orders_over.Goals as goal

pub returns-clause-due : goal.returns-clause-due
returns-clause-due g c =
    let s = c.args.state.now in
    let ts = s.market.tokens in
    let live = subst (λ (v : MarketState). v.market.live ≡ lives v.orders) c.state.view_is refl in
    let entered = subst (λ (xs : List Order). AreEntered c.args.ends.now ts xs) live c.requires in
    let at : filter (λ l. is_over c.args.time l.order.life) (orders_at ts c.deref.result.now s.orders) ≡ filter (λ l. is_over c.args.time l.order.life) s.orders =
    ap (λ indices. filter (λ l. is_over c.args.time l.order.life) (orders_at ts indices s.orders)) c.deref.ensures.value
    ∙ over_are c.args.ends.now ts c.args.time c.in_ok-indices.indices.items s.orders entered c.in_ok-indices.ensures.ok in
    subst (λ (l : List Live). IfOk c.over_at.result (λ orders. orders.items ≡ l)) at c.over_at.ensures
