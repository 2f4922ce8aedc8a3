use Rattle.std.proofs.Common.{◌≡◌, Some, None, length, map, sym, ap, ◌∙◌, subst}
use Rattle.hx_rules.specs.Outputs.{Outcome}
use Rattle.hx_rules.specs.Steps.{with_record}
use Rattle.hx_market_core.specs.Effects.{outcome_of}
use Rattle.hx_market_core.specs.Prepared.{IsPlanned}
use Rattle.hx_market_core.specs.MarketModel.{Seen, with_step}
use Rattle.hx_market_core.proofs.StayingMarkets.{forgotten, held}
use Rattle.hx_market_core.proofs.PreparedCounts.{step_is}
use Rattle.hx_market_core.proofs.market.Market.prepare.Goals as goal

pub make-requires : goal.make-requires
make-requires g c =
    let s = c.self.inside in
    record { entered = (forgotten s.ends c.forget.new.self s.state.market c.used.result c.used.ensures c.forget.ensures c.self.invariant.0 c.self.invariant.1).entered }

pub invariant_of-self : goal.invariant_of-self
invariant_of-self g c =
    let s = c.self.inside in
    let e = c.in_err-prepared.ensures in
    let h = held c.forget.new.self c.make.new.ends s.state.market c.make.new.state.market e.market e.ends
    (forgotten s.ends c.forget.new.self s.state.market c.used.result c.used.ensures c.forget.ensures c.self.invariant.0 c.self.invariant.1) in
    (h.sound, h.entered, (λ p is. absurd (let z : None ≡ Some p = is in cc)))

pub invariant_of-self-2 : goal.invariant_of-self-2
invariant_of-self-2 g c =
    let s = c.self.inside in
    let e = c.in_ok-prepared.ensures in
    let h = held c.forget.new.self c.make.new.ends s.state.market c.make.new.state.market e.market e.ends
    (forgotten s.ends c.forget.new.self s.state.market c.used.result c.used.ensures c.forget.ensures c.self.invariant.0 c.self.invariant.1) in (
      h.sound,
      h.entered,
      (λ p is.
          let same : c.in_ok-prepared.prepared ≡ p = e.next ∙ ap (with_step c.make.new.next) (sym c.of.ensures) ∙ (let z : Some (with_step c.make.new.next c.of.result.value) ≡ Some p = is in cc) in
          (subst (IsPlanned s.setup c.make.new.state c.make.new.ends) same e.planned, e.empty, e.room)),
    )

pub returns-clause-feed_count : goal.returns-clause-feed_count
returns-clause-feed_count g c =
    let s = c.self.inside in
    let p = c.in_ok-prepared.prepared in
    let i = c.in_ok-prepared.ensures.planned in
    let m = c.make.new.state.market in
    i.feed_count
    ∙ ap (λ (o : Outcome). length o.output.feed)
    (step_is s.setup c.args.self.now.setup m c.args.self.now.market p.event c.args.event.now (outcome_of (with_record p.event m) p.next.effect) i.ready.does
    (ap (λ (v : Seen). v.setup) c.self.view_is) (c.in_ok-prepared.ensures.market ∙ ap (λ (v : Seen). v.market) c.self.view_is) c.in_ok-prepared.ensures.event)

pub returns-clause-reply_members : goal.returns-clause-reply_members
returns-clause-reply_members g c =
    let s = c.self.inside in
    let p = c.in_ok-prepared.prepared in
    let i = c.in_ok-prepared.ensures.planned in
    let m = c.make.new.state.market in
    i.reply_members
    ∙ ap (λ (o : Outcome). map (λ r. r.0) o.output.replies)
    (step_is s.setup c.args.self.now.setup m c.args.self.now.market p.event c.args.event.now (outcome_of (with_record p.event m) p.next.effect) i.ready.does
    (ap (λ (v : Seen). v.setup) c.self.view_is) (c.in_ok-prepared.ensures.market ∙ ap (λ (v : Seen). v.market) c.self.view_is) c.in_ok-prepared.ensures.event)
