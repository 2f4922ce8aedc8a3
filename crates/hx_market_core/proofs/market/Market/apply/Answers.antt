use Rattle.std.proofs.Common.{◌≡◌, Some, None}
use Rattle.hx_market_core.proofs.StayingMarkets.{forgotten, held}
use Rattle.hx_market_core.proofs.market.Market.apply.Goals as goal

pub plan_step-requires : goal.plan_step-requires
plan_step-requires g c =
    let s = c.self.inside in
    record { entered = (forgotten s.ends c.forget.new.self s.state.market c.used.result c.used.ensures c.forget.ensures c.self.invariant.0 c.self.invariant.1).entered }

pub invariant_of-self : goal.invariant_of-self
invariant_of-self g c =
    let s = c.self.inside in
    let e = c.in_err-plan_step.ensures in
    let h = held c.forget.new.self c.plan_step.new.ends s.state.market c.plan_step.new.state.market e.market e.ends
    (forgotten s.ends c.forget.new.self s.state.market c.used.result c.used.ensures c.forget.ensures c.self.invariant.0 c.self.invariant.1) in
    (h.sound, h.entered, (λ p is. absurd (let z : None ≡ Some p = is in cc)))

pub invariant_of-self-in_err-make_room : goal.invariant_of-self-in_err-make_room
invariant_of-self-in_err-make_room g c =
    let s = c.self.inside in
    let e = c.in_ok-plan_step.ensures in
    let h = held c.forget.new.self c.plan_step.new.ends s.state.market c.plan_step.new.state.market e.market e.ends
    (forgotten s.ends c.forget.new.self s.state.market c.used.result c.used.ensures c.forget.ensures c.self.invariant.0 c.self.invariant.1) in
    (h.sound, h.entered, (λ p is. absurd (let z : None ≡ Some p = is in cc)))

pub commit_step-requires-clause-entered : goal.commit_step-requires-clause-entered
commit_step-requires-clause-entered g c =
    let s = c.self.inside in
    let e = c.in_ok-plan_step.ensures in
    (held c.forget.new.self c.plan_step.new.ends s.state.market c.plan_step.new.state.market e.market e.ends
    (forgotten s.ends c.forget.new.self s.state.market c.used.result c.used.ensures c.forget.ensures c.self.invariant.0 c.self.invariant.1)).entered
