-- What a day leaves.
use Rattle.std.specs.Prelude.{◌≡◌, ℕ, List, length}
use Rattle.hx_members.specs.Setups.{Setup}
use Rattle.hx_laws.specs.Recorded.{AreRecorded}
use Rattle.hx_market.specs.Steps.{feed}
use Rattle.hx_desk.specs.declared.entry.Entry.{Entry}
use Rattle.hx_desk.specs.Entries.{events_of}

-- the market accepts each event of the history, and their feed has `messages` messages
pub record IsServed (setup : Setup) (history : List Entry) (messages : ℕ) : Type 0 where
  pub accepted : AreRecorded setup (events_of history)
  pub feed_count : messages ≡ length (feed setup (events_of history))
