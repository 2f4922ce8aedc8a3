-- Which histories the market records: each event is accepted at its turn, after those before it.
use Rattle.std.specs.Prelude.{◌≡◌, List, [], ◌∷◌, None, ⊤}
use Rattle.hx_members.specs.Setups.{Setup}
use Rattle.hx_rules.specs.declared.event.Event.{Event}
use Rattle.hx_rules.specs.Markets.{Market, opening}
use Rattle.hx_rules.specs.Refusals.{refusal}
use Rattle.hx_rules.specs.Steps.{step}

-- the market accepts each of these events at its turn
abbrev pub AreAccepted : Setup → Market → List Event → Type 0
AreAccepted setup market [] = ⊤
AreAccepted setup market (event ∷ events) =
    (refusal setup market.recorded event ≡ None)
    × AreAccepted setup (step setup market event).market events

-- a history that is recorded whole
abbrev pub AreRecorded : Setup → List Event → Type 0
AreRecorded setup events = AreAccepted setup (opening setup) events
