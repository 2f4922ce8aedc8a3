use Rattle.std.proofs.Common.{◌≡◌, sym, ap, ◌∙◌, true}
use Rattle.std.specs.Option.{option_copied}
use Rattle.std.proofs.lemmas.Option.{same_Some}
use Rattle.hx_book.specs.Book.{qualifies}
use Rattle.hx_book.proofs.Qualifying.{MetNext, met_next, is_some_of, walk-shorter, qualifying, passed_over, none_after}
use Rattle.hx_book.proofs.list_book.qualifying_from.Goals as goal

-- the order that the walk has come to
met_here : (c : goal.After-order_in) → MetNext c.args.terms.now c.walk.last c.in-Some.key c.args.entries.now
met_here c = met_next c.args.terms.now c.walk.last c.in-Some.key c.args.entries.now c.requires.differ (sym c.in-Some.is ∙ c.next_from.ensures.exact)

pub unwrap-order-requires : goal.unwrap-order-requires
unwrap-order-requires c = let m = met_here c in is_some_of (λ x. x.now) c.order_in.result m.live.order (c.order_in.ensures.exact ∙ m.order)

pub returns-then-qualifies-clause-exact : goal.returns-then-qualifies-clause-exact
returns-then-qualifies-clause-exact c =
    let m = met_next c.args.terms.now c.walk.last c.in-Some.key c.args.entries.now c.requires.differ (sym c.in-Some.is ∙ c.next_from.ensures.exact) in
    let order : c.unwrap-order.result.now ≡ m.live.order = same_Some _ _ (sym (ap option_copied c.unwrap-order.ensures) ∙ c.order_in.ensures.exact ∙ m.order) in
    qualifying c.args.terms.now c.walk.last c.in-Some.key c.args.entries.now c.args.left c.args.minimum m
    (ap (qualifies c.args.left c.args.minimum) (sym order) ∙ sym c.qualifies.ensures.exact ∙ c.if-qualifies.true)
    ∙ c.walk.invariant.ahead

pub walk-smaller : goal.walk-smaller
walk-smaller c =
    walk-shorter c.args.terms.now c.walk.last (λ _. true) c.in-Some.key c.args.entries.now
    (met_next c.args.terms.now c.walk.last c.in-Some.key c.args.entries.now c.requires.differ (sym c.in-Some.is ∙ c.next_from.ensures.exact))

pub walk-preserved : goal.walk-preserved
walk-preserved c =
    let m = met_next c.args.terms.now c.walk.last c.in-Some.key c.args.entries.now c.requires.differ (sym c.in-Some.is ∙ c.next_from.ensures.exact) in
    let order : c.unwrap-order.result.now ≡ m.live.order = same_Some _ _ (sym (ap option_copied c.unwrap-order.ensures) ∙ c.order_in.ensures.exact ∙ m.order) in
    record {
      ahead =
          passed_over c.args.terms.now c.walk.last c.in-Some.key c.args.entries.now c.args.left c.args.minimum m
          (ap (qualifies c.args.left c.args.minimum) (sym order) ∙ sym c.qualifies.ensures.exact ∙ c.if-qualifies.false)
          ∙ c.walk.invariant.ahead;
      live = m.is_ranked;
    }

pub returns-clause-exact : goal.returns-clause-exact
returns-clause-exact c = none_after c.args.terms.now c.walk.last c.args.entries.now c.args.left c.args.minimum (sym c.in_default.is ∙ c.next_from.ensures.exact) ∙ c.walk.invariant.ahead
