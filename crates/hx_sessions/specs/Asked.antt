-- What the packets of a client ask to submit after its login, and what a pass sent for them.
use Rattle.std.specs.Prelude.{ℕ, ◌≡◌, ◌⊎◌, List, [], ◌∷◌, ◌++◌, map, take, Bool, false}
use mathlib.Core.List.{IsPrefix}
use Rattle.hx_soup.specs.declared.packet.SoupPacket.{SoupPacket}
use Rattle.hx_soup.specs.Packets.{Cuts, HasFault}
use Rattle.hx_sessions.specs.Intakes.{later_action}
use Rattle.hx_sessions.specs.declared.intake.Action.{Action}
use Rattle.hx_sessions.specs.declared.intake.Action.TheVariants as action
use Rattle.hx_rules.specs.declared.event.Event.{Event}
use Rattle.hx_rules.specs.declared.event.Event.TheVariants.{Message}
use Rattle.hx_engine.specs.Passes.{PassState}

-- one packet's message, before those of the later packets; a logout or a fault is the last packet that counts
abbrev pub asked_by : Action → List ℕ → List (List ℕ) → List (List ℕ)
asked_by (action.Login login) text more = []
asked_by action.Submit text more = text ∷ more
asked_by action.Ignore text more = more
asked_by action.Logout text more = []
asked_by action.Fault text more = []

-- the messages that the packets ask to submit, in order: the payloads that are not empty, up to a logout or a fault
abbrev pub asked : List SoupPacket → List (List ℕ)
asked [] = []
asked (p ∷ ps) = asked_by (later_action p) p.payload.items (asked ps)

-- A logout is among the packets.
pub record HasLogout (packets : List SoupPacket) : Type 0 where
  pub before : List SoupPacket
  pub logout : SoupPacket
  pub after : List SoupPacket
  pub splits : packets ≡ before ++ logout ∷ after
  pub is : later_action logout ≡ action.Logout

-- the packets of all bytes that were read: they are cut into these and less than a whole one, or a fault comes after
-- these
abbrev pub IsStream : List ℕ → List SoupPacket → Type 0
IsStream bytes packets =
    ((rest : List ℕ) × Cuts bytes packets rest) ⊎ ((bad : ℕ) × HasFault bytes packets bad)

-- the events are messages of the member with these texts, in order
abbrev pub AreMessages : ℕ → List Event → List (List ℕ) → Type 0
AreMessages member [] [] = Unit {0}
AreMessages member [] (t ∷ ts) = ⊥
AreMessages member (e ∷ es) [] = ⊥
AreMessages member (e ∷ es) (t ∷ ts) =
    (time : ℕ) × (e ≡ Message member time t) × AreMessages member es ts

-- a pass sent these events, one after another, and nothing else
pub record SendsOn (old new : List (ℕ × Event)) (events : List Event) : Type 0 where
  pub more : List (ℕ × Event)
  pub sent : new ≡ old ++ more
  pub are : map (λ x. x.1) more ≡ events

-- a pass sent the first of these events, and nothing else
abbrev pub SendsSome : (old new : List (ℕ × Event)) → List Event → Type 0
SendsSome old new events = (count : ℕ) × SendsOn old new (take count events)

-- a pass sent messages of the member with these texts, and nothing else
pub record Submits (member : ℕ) (old new : List (ℕ × Event)) (texts : List (List ℕ)) : Type 0 where
  pub events : List Event
  pub sends : SendsOn old new events
  pub are : AreMessages member events texts

-- a pass retains its number, and knows as much or more; if it may send nothing, it has sent nothing
pub record CarriesOn (may_send : Bool) (old new : PassState) : Type 0 where
  pub number : new.number ≡ old.number
  pub known : IsPrefix old.known new.known
  pub silent : may_send ≡ false → new.sent ≡ old.sent
