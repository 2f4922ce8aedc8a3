-- What contracts see of a pass.
use Rattle.std.specs.Prelude.{◌≡◌, ◌⊎◌, ℕ, zero, suc, ◌+◌, ◌-◌, ◌≤◌, ◌==◌, if◌then◌else◌, List, [], ◌∷◌, ◌++◌, map, slice_get, Some}
use Rattle.hx_blog.specs.Feed.{Entries}
use Rattle.hx_rules.specs.declared.event.Event.{Event}
use Rattle.hx_desk.specs.declared.entry.Entry.{Entry}
use Rattle.hx_desk.specs.Entries.{entry_of}

-- an event that was sent, with its position in the history, which is counted from 1
abbrev pub Sent : Type 0
Sent = ℕ × Event

-- A pass: its number, the events that it sent, those of its events that were admitted and may not be durable, and the
-- entries that it knows.
pub record PassState : Type 0 where
  pub number : ℕ
  pub sent : List Sent
  pub waiting : List Sent
  pub known : Entries Entry

-- a pass that has sent nothing and knows nothing
abbrev pub new_pass : (number : ℕ) → PassState
new_pass number = record { number = number; sent = []; waiting = []; known = [] }

-- the passes 1 to n of a new exchange
abbrev pub new_passes : (count : ℕ) → List PassState
new_passes zero = []
new_passes (suc n) = new_passes n ++ new_pass (suc n) ∷ []

-- the entries of a pass, each with its position in the history, whose first entry is at `position`
abbrev pub sent_from : (number position : ℕ) → List Entry → List Sent
sent_from number position [] = []
sent_from number position (e ∷ history) =
    if e.pass == number then (position, e.event) ∷ sent_from number (position + 1) history
    else sent_from number (position + 1) history

-- the entries of a pass, with their positions in the history
abbrev pub sent_in : (number : ℕ) → List Entry → List Sent
sent_in number history = sent_from number 1 history

-- some of the list, in its order
abbrev pub AreSomeOf : List Sent → List Sent → Type 0
AreSomeOf xs [] = xs ≡ []
AreSomeOf xs (y ∷ ys) =
    AreSomeOf xs ys ⊎ ((rest : List Sent) × (xs ≡ y ∷ rest) × AreSomeOf rest ys)

-- the event has its position in the history, under this number
abbrev pub StandsAt : (number : ℕ) → List Entry → Sent → Type 0
StandsAt number history x =
    (1 ≤ x.0) × (slice_get history (x.0 - 1) ≡ Some (entry_of number x.1))

-- the entries of events that a pass sends
abbrev pub sent_by : (number : ℕ) → List Event → List Entry
sent_by number events = map (entry_of number) events

-- events with their positions in a history, after `later` entries
abbrev pub placed : (later : ℕ) → List Event → List Sent
placed later [] = []
placed later (e ∷ events) = (later + 1, e) ∷ placed (later + 1) events
