use Rattle.std.proofs.Common.{◌≡◌, Some, sym, ap, ◌∙◌}
use Rattle.std.specs.Option.{option_map}
use Rattle.hx_book.specs.declared.order.Key.{Key}
use Rattle.hx_book.specs.declared.order.Order.{Order}
use Rattle.hx_book.specs.Book.{order_of}
use Rattle.hx_market_core.specs.declared.order_by_token.Found.{Found}
use Rattle.hx_market_core.specs.Effects.{confirmed}
use Rattle.hx_market_core.proofs.OrderKeys.{found_is, none_found, none_at, output_used, output_unused, confirmed_is, only_is}
use Rattle.hx_market_core.proofs.order_by_token.find_order.Goals as goal

abbrev order_in : Found → Order
order_in f = f.live.order

pub returns-in_err-used-clause-found : goal.returns-in_err-used-clause-found
returns-in_err-used-clause-found g c =
    let tokens = c.state.inside.tokens in
    let orders = g.B.Book.orders c.state.inside.book in
    let m = c.args.member in
    let t = c.args.token.now in
    rw (← c.state.view_is) (ap (option_map order_in) c.from_residual.ensures
    ∙ sym (none_found tokens.tokens tokens.keys m t orders c.state.invariant (none_at tokens.tokens tokens.keys m t c.state.invariant.as_many (output_unused tokens.tokens tokens.chains tokens.keys m t c.in_err-used.ensures.state))))

pub returns-in_err-used-2-clause-found : goal.returns-in_err-used-2-clause-found
returns-in_err-used-2-clause-found g c =
    let tokens = c.state.inside.tokens in
    let orders = g.B.Book.orders c.state.inside.book in
    let m = c.args.member in
    let t = c.args.token.now in
    rw (← c.state.view_is) (ap (option_map order_in) c.from_residual-in_err-used-2.ensures
    ∙ sym (none_found tokens.tokens tokens.keys m t orders c.state.invariant
    ((output_used tokens.tokens tokens.chains tokens.keys m t c.in_ok-used.used c.in_ok-used.ensures.state).0 ∙ c.in_err-used-2.was)))

pub returns-in_err-live-clause-found : goal.returns-in_err-live-clause-found
returns-in_err-live-clause-found g c =
    let tokens = c.state.inside.tokens in
    let orders = g.B.Book.orders c.state.inside.book in
    let m = c.args.member in
    let t = c.args.token.now in
    rw (← c.state.view_is) (ap (option_map order_in) c.from_residual-in_err-live.ensures ∙ c.in_err-live.ensures.confirmed
    ∙ sym (found_is tokens.tokens tokens.keys m t orders c.in_ok-used-2.field-0 c.state.invariant c.confirm.ensures.keys
    ((output_used tokens.tokens tokens.chains tokens.keys m t c.in_ok-used.used c.in_ok-used.ensures.state).0 ∙ c.in_ok-used-2.was)))

pub returns-clause-found : goal.returns-clause-found
returns-clause-found g c =
    let tokens = c.state.inside.tokens in
    let orders = g.B.Book.orders c.state.inside.book in
    let m = c.args.member in
    let t = c.args.token.now in
    rw (← c.state.view_is) (c.in_ok-live.ensures.confirmed
    ∙ sym (found_is tokens.tokens tokens.keys m t orders c.in_ok-used-2.field-0 c.state.invariant c.confirm.ensures.keys
    ((output_used tokens.tokens tokens.chains tokens.keys m t c.in_ok-used.used c.in_ok-used.ensures.state).0 ∙ c.in_ok-used-2.was)))

pub returns-clause-only : goal.returns-clause-only
returns-clause-only g c =
    let tokens = c.state.inside.tokens in
    let orders = g.B.Book.orders c.state.inside.book in
    let m = c.args.member in
    let t = c.args.token.now in
    let live = c.in_ok-live.live in
    let key : c.in_ok-used-2.field-0 ≡ live.key.0 = sym (ap (λ (k : Key). k.0) c.in_ok-live.ensures.key) in
    let was = confirmed_is m t (order_of live.key.0 orders) live.order (c.in_ok-live.ensures.confirmed ∙ ap (λ k. confirmed m t (order_of k orders)) key) in
    rw (← c.state.view_is) (only_is tokens.tokens tokens.keys m t orders live c.state.invariant c.confirm.ensures.keys
    ((output_used tokens.tokens tokens.chains tokens.keys m t c.in_ok-used.used c.in_ok-used.ensures.state).0 ∙ c.in_ok-used-2.was ∙ ap (λ k. Some k) key) was.0 was.1)

pub returns-clause-executed : goal.returns-clause-executed
returns-clause-executed g c =
    let tokens = c.state.inside.tokens in
    let orders = g.B.Book.orders c.state.inside.book in
    rw (← c.state.view_is) ((output_used tokens.tokens tokens.chains tokens.keys c.args.member c.args.token.now c.in_ok-used.used c.in_ok-used.ensures.state).1)
