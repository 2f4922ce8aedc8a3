use Rattle.std.proofs.Common.{◌≡◌, ◌<◌, ◌^◌, ℕ, List, Option, refl, sym, ap, ◌∙◌, subst}
use Rattle.std.specs.List.{AllByRecursion}
use Rattle.hx_book.specs.Book.{lives}
use Rattle.hx_refs.specs.Numbers.{raised}
use Rattle.hx_itch.specs.Message.{feed_time}
use Rattle.hx_rules.specs.Markets.{Market}
use Rattle.hx_rules.specs.Outputs.{Outcome}
use Rattle.hx_day.specs.Ends.{StaysAfter}
use Rattle.hx_day.specs.Bounds.{IsSound}
use Rattle.hx_market_core.specs.Effects.{outcome_of}
use Rattle.hx_market_core.specs.Expiries.{AreEntered}
use Rattle.hx_market_core.specs.MarketModel.{MarketState}
use Rattle.hx_market_core.specs.Prepared.{CanCommit}
use Rattle.hx_market_core.specs.Room.{Tells}
use Rattle.hx_market_core.proofs.FeedTimes.{fits_feed}
use Rattle.hx_day.specs.BoundChanges.{recording}
use Rattle.hx_market_core.proofs.AfterEffect.{in_range}
use Rattle.hx_market_core.proofs.Stepping.{counted, can_commit, stepped, sound_after, entered_after}
use Rattle.hx_market_core.proofs.commit.commit_step.Goals as goal

-- the market once the event is recorded
is_recorded : (v s : MarketState) (counts : List ℕ) (n : ℕ) → counts ≡ raised v.market.recorded n → v ≡ s → (counted counts v).market ≡ recording s.market n
is_recorded v s counts n r is = ap (λ (rs : List ℕ). (counted rs v).market) r ∙ ap (λ (w : MarketState). recording w.market n) is

live_in : (v s : MarketState) → v ≡ s → v.market.live ≡ lives v.orders → s.market.live ≡ lives s.orders
live_in v s is live = subst (λ (w : MarketState). w.market.live ≡ lives w.orders) is live

pub commit_effect-requires-clause-ready : goal.commit_effect-requires-clause-ready
commit_effect-requires-clause-ready g c =
    let next = c.args.next.now in
    let counts : List ℕ = c.raise.new.self in
    subst (λ (v : MarketState). CanCommit (counted counts v) next.fills.items next.left next.effect) (sym c.state.view_is)
    (can_commit c.args.setup.value c.args.state.now c.args.ends.now c.args.event.value next c.requires.ready counts (live_in _ _ c.state.view_is refl) c.requires.sound)

pub returns-clause-market : goal.returns-clause-market
returns-clause-market g c =
    c.commit_effect.ensures.market
    ∙ ap (λ (o : Outcome). o.market) (stepped c.args.setup.value c.args.state.now c.args.ends.now c.args.event.value c.args.next.now c.requires.ready _ (is_recorded _ _ _ _ c.raise.ensures c.state.view_is))

pub returns-clause-sound : goal.returns-clause-sound
returns-clause-sound g c =
    let next = c.args.next.now in
    let is : c.commit_effect.new.state.market ≡ (outcome_of (recording c.args.state.now.market next.number) next.effect).market =
    c.commit_effect.ensures.market ∙ ap (λ (k : Market). (outcome_of k next.effect).market) (is_recorded _ _ _ _ c.raise.ensures c.state.view_is) in
    subst IsSound (sym is) (sound_after c.args.setup.value c.args.state.now c.args.ends.now c.args.event.value next c.requires.ready (live_in _ _ c.state.view_is refl) c.requires.sound)

pub returns-clause-entered : goal.returns-clause-entered
returns-clause-entered g c =
    let next = c.args.next.now in
    let is : c.commit_effect.new.state.market ≡ (outcome_of (recording c.args.state.now.market next.number) next.effect).market =
    c.commit_effect.ensures.market ∙ ap (λ (k : Market). (outcome_of k next.effect).market) (is_recorded _ _ _ _ c.raise.ensures c.state.view_is) in
    subst (λ (k : Market). AreEntered c.done.new.self k.tokens k.live) (sym is)
    (entered_after c.args.setup.value c.args.state.now c.args.ends.now c.args.event.value next c.requires.ready c.done.new.self c.requires.sound (subst (λ (o : Option ℕ). StaysAfter o c.args.ends.now c.done.new.self) c.over_until.ensures c.done.ensures) c.requires.entered)

pub returns-clause-output : goal.returns-clause-output
returns-clause-output g c =
    subst (λ (o : Outcome). Tells c.args.out.now c.commit_effect.new.out o.output) (stepped c.args.setup.value c.args.state.now c.args.ends.now c.args.event.value c.args.next.now c.requires.ready _ (is_recorded _ _ _ _ c.raise.ensures c.state.view_is))
    c.commit_effect.ensures.output

pub returns-clause-times : goal.returns-clause-times
returns-clause-times g c =
    let next = c.args.next.now in
    subst (λ (o : Outcome). AllByRecursion (λ f. feed_time f < 2 ^ 48) o.output.feed)
    (stepped c.args.setup.value c.args.state.now c.args.ends.now c.args.event.value next c.requires.ready (recording c.args.state.now.market next.number) refl)
    (fits_feed (recording c.args.state.now.market next.number) next.effect (in_range c.args.setup.value next.effect c.requires.ready.fit.is_effect))
