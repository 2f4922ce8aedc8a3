-- What an exchange resumes from: the events that were durable before, applied one after another.
use Rattle.std.specs.Prelude.{◌≡◌, ℕ, ◌<◌, ◌∷◌, ◌++◌, List, [], length, take}
use Rattle.hx_blog.specs.Ends.{LogId, ReceiptState}
use Rattle.hx_members.specs.Setups.{Setup}
use Rattle.hx_rules.specs.declared.event.Event.{Event}
use Rattle.hx_desk.specs.declared.entry.Entry.{Entry}
use Rattle.hx_desk.specs.declared.fault.DeskError.{DeskError}
use Rattle.hx_desk.specs.Desks.{DeskState, IsResumed, Faults}
use Rattle.hx_desk.specs.Entries.{events_of}

-- Events that were applied: the log of the feed in which they were published, the setup, and the events.
pub record AppliedState : Type 0 where
  pub log : LogId
  pub setup : Setup
  pub events : List Event

-- the same, with one event more
abbrev pub with_event : AppliedState → Event → AppliedState
with_event applied event = record applied { events = applied.events ++ event ∷ [] }

-- The state once events are applied over a log: a desk that was resumed from all that it has recorded, and a receipt
-- for nothing.
pub record Stands (log : LogId) (desk : DeskState) (knows : ReceiptState Entry) : Type 0 where
  pub resumed : IsResumed log desk.setup (events_of desk.history) desk
  pub nothing : knows ≡ record { log = log; known = [] }

-- A desk that was resumed from the applied events refuses this one, for this reason.
pub record IsRefusedAfter (applied : AppliedState) (event : Event) (error : DeskError) : Type 0 where
  pub desk : DeskState
  pub resumed : IsResumed applied.log applied.setup applied.events desk
  pub faults : Faults desk event error

-- The first `count` of these events were applied, and the next one was not.
pub record StopsWithin (before after : List Event) (events : List Event) : Type 0 where
  pub count : ℕ
  pub within : count < length events
  pub applied : after ≡ before ++ take count events
