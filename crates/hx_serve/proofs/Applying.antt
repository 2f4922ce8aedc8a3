-- The last time of the events that are applied.
use Rattle.std.proofs.Common.{◌≡◌, ℕ, List, [], ◌∷◌, ◌++◌, refl}
use Rattle.std.specs.Prelude.{max}
use Rattle.hx_rules.specs.declared.event.Event.{Event}
use Rattle.hx_rules.specs.Steps.{time_of}
use Rattle.hx_serve.specs.Applied.{later}

pub later_of_one_more : (last : ℕ) (events : List Event) (event : Event) → later last (events ++ event ∷ []) ≡ max (later last events) (time_of event)
later_of_one_more last [] event = refl
later_of_one_more last (e ∷ events) event = later_of_one_more (max last (time_of e)) events event
