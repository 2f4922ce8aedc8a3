use Rattle.std.proofs.Common.{◌≡◌, List, refl, ap, sym, ◌∙◌, subst}
use Rattle.hx_book.specs.Book.{lives}
use Rattle.hx_match.specs.declared.fills.Fill.{Fill}
use Rattle.hx_rules.specs.declared.event.Event.{Event}
use Rattle.hx_rules.specs.Steps.{with_record}
use Rattle.hx_market_core.specs.declared.next_step.NextStep.{NextStep}
use Rattle.hx_market_core.specs.MarketModel.{Planned, MarketState}
use Rattle.hx_market_core.specs.Prepared.{IsPlanned, effect_feed_count, effect_members}
use Rattle.hx_market_core.proofs.PreparedCounts.{tells}
use Rattle.hx_market_core.proofs.prepare.make.Goals as goal

pub returns-clause-planned : goal.returns-clause-planned
returns-clause-planned g c =
    let s : MarketState = c.plan_step.new.state in
    let ready = c.in_ok-plan_step.ensures.ready in
    let e : Event = c.args.event.now in
    let next = c.plan_step.new.next in
    let live : s.market.live ≡ lives s.orders = subst (λ (v : MarketState). v.market.live ≡ lives v.orders) c.state.view_is refl in
    let output = tells (with_record e s.market) next.effect s.orders s.reserved s.reserved_token next.fills.items next.left live ready.fit.about ready.indices in
    let made : Event → NextStep → Planned = λ ev step. record { event = ev; feed_count = c.feed_count.result; reply_members = c.in_ok-reply_members.reply_members.items; next = step } in
    let planned : Planned → Type 0 = IsPlanned c.args.setup.now s c.plan_step.new.ends in
    subst (λ (ev : Event). planned (made ev c.of-2.result.value)) (sym c.of.ensures)
    (subst (λ (step : NextStep). planned (made e step)) (sym c.of-2.ensures)
    (record {
      ready = record {
        number = ready.number;
        may_record = ready.may_record;
        does = ready.does;
        fit = ready.fit;
        indices = ready.indices;
        has_room = ready.has_room;
        end_entered = ready.end_entered;
      };
      feed_count = c.feed_count.ensures ∙ ap (λ (fs : List Fill). effect_feed_count next.effect fs next.left) c.deref-2.ensures.value ∙ output.0;
      reply_members = c.in_ok-reply_members.ensures ∙ ap (λ (fs : List Fill). effect_members next.effect (g.B.Book.orders c.state.inside.book) fs next.left) c.deref.ensures.value ∙ ap (λ (v : MarketState). effect_members next.effect v.orders next.fills.items next.left) c.state.view_is ∙ output.1;
    }))
