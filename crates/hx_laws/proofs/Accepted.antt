-- Histories that the market accepts, with one more event, and their beginnings.
use Rattle.std.proofs.Common.{◌≡◌, List, [], ◌∷◌, ◌++◌, None, refl}
use Rattle.hx_members.specs.Setups.{Setup}
use Rattle.hx_rules.specs.declared.event.Event.{Event}
use Rattle.hx_rules.specs.Markets.{Market}
use Rattle.hx_rules.specs.Refusals.{refusal}
use Rattle.hx_rules.specs.Steps.{step, market_after}
use Rattle.hx_laws.specs.Recorded.{AreAccepted}

-- the market after one more event
pub market_after_push : (setup : Setup) (a : Market) (xs : List Event) (x : Event) → market_after setup a (xs ++ x ∷ []) ≡ (step setup (market_after setup a xs) x).market
unfolding market_after
market_after_push setup a [] x = refl
market_after_push setup a (y ∷ xs) x = market_after_push setup (step setup a y).market xs x

pub accepted_push : (setup : Setup) (a : Market) (xs : List Event) (x : Event) → AreAccepted setup a xs → refusal setup (market_after setup a xs).recorded x ≡ None → AreAccepted setup a (xs ++ x ∷ [])
unfolding market_after
accepted_push setup a [] x h r = (r, tt)
accepted_push setup a (y ∷ xs) x h r = (h.0, accepted_push setup (step setup a y).market xs x h.1 r)

pub accepted_front : (setup : Setup) (a : Market) (xs ys : List Event) → AreAccepted setup a (xs ++ ys) → AreAccepted setup a xs
accepted_front setup a [] ys h = tt
accepted_front setup a (x ∷ xs) ys h = (h.0, accepted_front setup (step setup a x).market xs ys h.1)
