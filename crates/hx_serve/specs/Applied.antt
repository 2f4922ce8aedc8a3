-- A day whose events are applied before it is served.
use Rattle.std.specs.Prelude.{◌≡◌, ℕ, max, List, [], ◌∷◌}
use Rattle.hx_blog.specs.Ends.{LogId}
use Rattle.hx_rules.specs.declared.event.Event.{Event}
use Rattle.hx_rules.specs.Steps.{time_of}
use Rattle.hx_members.specs.Setups.{Setup}
use Rattle.hx_engine.specs.Applied.{AppliedState}

-- the last of a time and those of events
abbrev pub later : ℕ → List Event → ℕ
later last [] = last
later last (e ∷ events) = later (max last (time_of e)) events

-- the last time of events, and 0 of none
abbrev pub last_time : List Event → ℕ
last_time events = later 0 events

-- What is stored beside applied events: the setup that they are applied under, a reader of the log of the feed, and
-- their last time.
pub record Beside (applied : AppliedState) (setup : Setup) (read : LogId) (last : ℕ) : Type 0 where
  pub under : applied.setup ≡ setup
  pub reads : read ≡ applied.log
  pub until : last ≡ last_time applied.events
