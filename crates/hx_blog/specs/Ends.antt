-- What contracts see of a log and of its ends.
use Rattle.std.specs.Prelude.{ℕ, ◌-◌, ◌/◌, List, take}
use Rattle.atomic_table.specs.Seated.{TableId}
use Rattle.hx_blog.specs.Feed.{Entries, feed}

-- which log it is
abbrev pub LogId : Type 0
LogId = TableId

-- the most messages that a log may have room for
abbrev pub most_room : ℕ
most_room = 1000000

-- the number of messages for which a log has room: it has a count word, and six words a message
abbrev pub room_of : LogId → ℕ
room_of log = (log.words - 1) / 6

-- The writer: its log, the entries that it published, and the messages that it staged since.
pub record WriterState (E : Type 0) : Type 0 where
  pub log : LogId
  pub published : Entries E
  pub staged : List (List ℕ)

-- A reader: its log, the entries that it knows, the count that it has seen, the number of messages that it has read,
-- and the number of times that it loaded the count.
pub record ReaderState (E : Type 0) : Type 0 where
  pub log : LogId
  pub known : Entries E
  pub seen : ℕ
  pub read : ℕ
  pub loads : ℕ

-- A receipt: its log, and the entries that it knows.
pub record ReceiptState (E : Type 0) : Type 0 where
  pub log : LogId
  pub known : Entries E

-- the messages that a reader has read: the first ones of the feed of what it knows, in order
abbrev pub got : {E : Type 0} → ReaderState E → List (List ℕ)
got r = take r.read (feed r.known)
