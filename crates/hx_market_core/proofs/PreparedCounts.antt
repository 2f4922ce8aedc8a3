-- The output that is prepared of an effect is the output of the effect.
use Rattle.std.proofs.Common.{◌≡◌, ℕ, List, map, length, Option, refl, sym, ap, ◌∙◌}
use Rattle.hx_members.specs.Setups.{Setup}
use Rattle.hx_rules.specs.declared.event.Event.{Event}
use Rattle.hx_rules.specs.Outputs.{Outcome}
use Rattle.hx_rules.specs.Steps.{step, happens, with_record}
use Rattle.hx_book.specs.declared.order.Live.{Live}
use Rattle.hx_book.specs.declared.order.Terms.{Terms}
use Rattle.hx_book.specs.Book.{lives}
use Rattle.hx_match.specs.declared.fills.Fill.{Fill}
use Rattle.hx_members.specs.Name.{Name}
use Rattle.hx_market_core.specs.declared.effect.Effect.{Effect}
use Rattle.hx_market_core.specs.declared.effect.Effect.TheVariants.{Nothing, Reject, Accept, Fail, Replace, Cancel, End, Halt, Break}
use Rattle.hx_rules.specs.Markets.{Market}
use Rattle.hx_market_core.specs.Effects.{outcome_of, IsAbout}
use Rattle.hx_market_core.specs.Prepared.{HasReserved, effect_feed_count, effect_members}
use Rattle.hx_market_core.proofs.Plans.{feed_accepted, members_accepted, feed_replaced, members_replaced, length-deleted, length-off}

pub tells : (m : Market) (effect : Effect) (orders : List Live) (reserved : Option Terms) (name : Option Name) (fills : List Fill) (left : ℕ) → m.live ≡ lives orders → IsAbout orders effect → HasReserved orders reserved name fills left effect
    → (effect_feed_count effect fills left ≡ length (outcome_of m effect).output.feed) × (effect_members effect orders fills left ≡ map (λ r. r.0) (outcome_of m effect).output.replies)
tells m Nothing orders reserved name fills left live about h = (refl, refl)
tells m (Reject r) orders reserved name fills left live about h = (refl, refl)
tells m (Accept a) orders reserved name fills left live about h = (feed_accepted m a orders fills left live h.2, members_accepted m a orders fills left live h.3 h.2)
tells m (Fail a) orders reserved name fills left live about h = (length-deleted a.time a.old.order, refl)
tells m (Replace a) orders reserved name fills left live about h = (feed_replaced m a orders fills left live about h.2, members_replaced m a orders fills left live about h.2)
tells m (Cancel a) orders reserved name fills left live about h = (length-off a.time a.by a.old.order, refl)
tells m (End e) orders reserved name fills left live about h = (refl, refl)
tells m (Halt e) orders reserved name fills left live about h = (refl, refl)
tells m (Break e) orders reserved name fills left live about h = (refl, refl)

-- what an event does, as one step
pub step_is : (s t : Setup) (m k : Market) (e f : Event) (o : Outcome) → happens s (with_record e m) e ≡ o → s ≡ t → m ≡ k → e ≡ f → o ≡ step t k f
unfolding step
step_is s t m k e f o h se me ee =
    sym h
    ∙ ap (λ (z : Setup). happens z (with_record e m) e) se
    ∙ ap (λ (z : Market). happens t (with_record e z) e) me
    ∙ ap (λ (z : Event). happens t (with_record z k) z) ee
