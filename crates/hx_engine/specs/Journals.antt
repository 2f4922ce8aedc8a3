-- What a journal holds of an exchange.
use Rattle.std.specs.Prelude.{◌≡◌, ℕ, List, [], map}
use mathlib.Core.List.{IsPrefix}
use Rattle.std.specs.Global.{Vec}
use Rattle.hx_blog.specs.Feed.{Entries}
use Rattle.hx_rules.specs.declared.event.Event.{Event}
use Rattle.hx_members.specs.Setups.{Setup}
use Rattle.hx_tape_lines.specs.Text.{record_of}
use Rattle.hx_laws.specs.Recorded.{AreRecorded}
use Rattle.hx_desk.specs.declared.entry.Entry.{Entry}
use Rattle.hx_desk.specs.Entries.{restored, events_of, ledger}

-- entries without messages: the content of a log that exists only for what is known of it
abbrev pub unspoken : List Entry → Entries Entry
unspoken history = map (λ e. (e, [])) history

-- the records of a history
abbrev pub lines : (Event → List ℕ) → List Entry → List (List ℕ)
lines line history = map (λ e. line e.event) history

-- records as lists of bytes
abbrev pub record_texts : List (Vec ℕ) → List (List ℕ)
record_texts records = map (λ r. r.items) records

-- These records are left of an exchange that a crash ends: the records of a history that the market accepts. It begins
-- with the events that were durable before, and has all that somebody knows, with its feed.
pub record IsLeft
    (setup : Setup) (durable_before : List Event) (known : Entries Entry) (left : List (List ℕ))
    : Type 0 where
  pub history : List Entry
  pub records : left ≡ lines record_of history
  pub accepted : AreRecorded setup (events_of history)
  pub begins : IsPrefix (restored durable_before) history
  pub knew : IsPrefix known (ledger setup history)
