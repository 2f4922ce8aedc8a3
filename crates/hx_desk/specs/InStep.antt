-- The parts of a desk, as they are between two calls.
use Rattle.std.specs.Prelude.{◌≡◌, ℕ, ◌+◌, ◌<◌, ◌≤◌, List, ◌++◌, length, take, slice_index}
use Rattle.hx_blog.specs.Feed.{Entries, feed}
use Rattle.hx_members.specs.Setups.{Setup}
use Rattle.hx_market.specs.Markets.{Market}
use Rattle.hx_market.specs.Steps.{run, replies}
use Rattle.hx_laws.specs.Recorded.{AreRecorded}
use Rattle.hx_desk.specs.declared.entry.Entry.{Entry}
use Rattle.hx_desk.specs.declared.mark.Mark.{Mark}
use Rattle.hx_desk.specs.Rows.{RowList, row_of, row_count, times, replies_spelled}
use Rattle.hx_desk.specs.Entries.{events_of, ledger}

-- the replies to a member after a history, in bytes
abbrev pub replies_after : Setup → (member : ℕ) → List Entry → List (List ℕ)
replies_after setup member history = replies_spelled (replies setup member (events_of history))

-- the members of the replies that came between two points of a history, each once per reply
abbrev pub AreAnswered : Setup → (before after : List Entry) → (members : List ℕ) → Type 0
AreAnswered setup before after members =
    (m : ℕ) → m < row_count
    → length (replies_after setup m before) + times m members
    ≡ length (replies_after setup m after)

-- The mark of a point in a history: the number of entries before it, the number of their feed messages, and the phase
-- of the day after them.
pub record IsMark (setup : Setup) (history : List Entry) (mark : Mark) : Type 0 where
  pub within : mark.entries ≤ length history
  pub messages : mark.messages ≡ length (feed (ledger setup (take mark.entries history)))
  pub phase : mark.phase ≡ (run setup (events_of (take mark.entries history))).phase

-- The market is the run of the history, which it accepted. The entries up to the mark `published_end` are published,
-- with their messages of the feed and the replies to them; those from there up to the mark `sealed` are in the batch
-- that is written; the messages of all unpublished entries are staged, and the replies to all entries are in the rows;
-- and the members of the replies that are not published are listed.
pub record AreInStep
    (setup : Setup) (market : Market) (published : Entries Entry) (staged : List (List ℕ))
    (history : List Entry) (rows : RowList) (counts : List ℕ) (published_end sealed : Mark)
    (writing waiting : List ℕ)
    : Type 0 where
  pub runs : market ≡ run setup (events_of history)
  pub accepted : AreRecorded setup (events_of history)
  pub published_mark : IsMark setup history published_end
  pub sealed_mark : IsMark setup history sealed
  pub order : published_end.entries ≤ sealed.entries
  pub published_feed : published ≡ ledger setup (take published_end.entries history)
  pub all_feed : feed published ++ staged ≡ feed (ledger setup history)
  pub sized_rows : length rows ≡ row_count
  pub sized_counts : length counts ≡ row_count
  pub replies : (m : ℕ) → m < row_count → row_of rows m ≡ replies_after setup m history
  pub published_replies :
      (m : ℕ) → m < row_count
      → slice_index counts m ≡ length (replies_after setup m (take published_end.entries history))
  pub writing_replies :
      (m : ℕ) → m < row_count
      → slice_index counts m + times m writing
      ≡ length (replies_after setup m (take sealed.entries history))
  pub all_replies :
      (m : ℕ) → m < row_count
      → slice_index counts m + (times m writing + times m waiting)
      ≡ length (replies_after setup m history)
