-- What contracts see of a desk.
use Rattle.std.specs.Prelude.{◌≡◌, ℕ, ◌+◌, ◌-◌, ◌<◌, ◌≤◌, Bool, nat_le, List, [], ◌∷◌, ◌++◌, length, take, Option, Some, None}
use Rattle.hx_blog.specs.Feed.{Entries, feed}
use Rattle.hx_blog.specs.Ends.{LogId, WriterState, room_of}
use Rattle.hx_itch.specs.declared.message.Feed.{Feed}
use Rattle.hx_members.specs.Setups.{Setup}
use Rattle.hx_rules.specs.declared.event.Event.{Event}
use Rattle.hx_rules.specs.declared.event.Event.TheVariants as events
use Rattle.hx_rules.specs.declared.fault.PrepareError.{PrepareError}
use Rattle.hx_rules.specs.declared.fault.PrepareError.TheVariants as market
use Rattle.hx_market.specs.Markets.{Market, opening}
use Rattle.hx_market.specs.Outputs.{Outcome}
use Rattle.hx_market.specs.Refusals.{refusal}
use Rattle.hx_market.specs.MarketModel.{Seen}
use Rattle.hx_market.specs.Steps.{step, run, replies}
use Rattle.hx_laws.specs.Recorded.{AreRecorded}
use Rattle.hx_desk.specs.declared.entry.Entry.{Entry}
use Rattle.hx_desk.specs.declared.entry.Done.{Done}
use Rattle.hx_desk.specs.declared.mark.Mark.{Mark}
use Rattle.hx_desk.specs.declared.fault.DeskError.{DeskError}
use Rattle.hx_desk.specs.declared.fault.DeskError.TheVariants as fault
use Rattle.hx_desk.specs.Rows.{RowList, RoomyRows, Part, row_of, row_count, no_rows, shown, replies_spelled}
use Rattle.hx_desk.specs.Entries.{entry_of, restored, events_of, feed_spelled, ledger}
use Rattle.hx_desk.specs.Secrecy.{IsFeedWithoutTrace, AreRepliesWithoutTrace}

-- A desk: its log and its setup; the history; the number of its entries that are published, and of those that are
-- published or sealed; its market; what is published in the log; the published replies to each member number; and the
-- number of slots of the log that are reserved for the hours.
pub record DeskState : Type 0 where
  pub log : LogId
  pub setup : Setup
  pub history : List Entry
  pub published_end : ℕ
  pub sealed : ℕ
  pub market : Market
  pub published : Entries Entry
  pub rows : RowList
  pub reserved : ℕ

-- the entries that are published
abbrev pub published_of : DeskState → List Entry
published_of d = take d.published_end d.history

-- the desk of a log's writer, a market, a history, the rows of replies, the marks up to which it published and sealed,
-- and the number of reserved slots
abbrev pub desk_of :
    WriterState Entry → Seen → List Entry → RoomyRows → (published_end sealed : Mark) → (reserved : ℕ)
    → DeskState
desk_of writer market history rows published_end sealed reserved =
    record {
      log = writer.log;
      setup = market.setup;
      history = history;
      published_end = published_end.entries;
      sealed = sealed.entries;
      market = market.market;
      published = writer.published;
      rows = shown rows.published_end rows.rows;
      reserved = reserved;
    }

-- a desk at its start
abbrev pub start_of : LogId → Setup → DeskState
start_of log setup =
    record {
      log = log;
      setup = setup;
      history = [];
      published_end = 0;
      sealed = 0;
      market = opening setup;
      published = [];
      rows = no_rows;
      reserved = 0;
    }

-- The market is the run of the whole history, each event of which it accepted. What is published are the entries up to
-- `published_end`, with their feed, and each row is its member's replies to these.
pub record IsStanding (d : DeskState) : Type 0 where
  pub order : d.published_end ≤ d.sealed
  pub within : d.sealed ≤ length d.history
  pub market : d.market ≡ run d.setup (events_of d.history)
  pub accepted : AreRecorded d.setup (events_of d.history)
  pub published : d.published ≡ ledger d.setup (published_of d)
  pub rows :
      (member : ℕ) → member < row_count
      → row_of d.rows member ≡ replies_spelled (replies d.setup member (events_of (published_of d)))

-- the market after the published entries
abbrev pub published_market : DeskState → Market
published_market d = run d.setup (events_of (published_of d))

-- all replies
abbrev pub all_of_them : Part
all_of_them replies = replies

-- the rows are this part of the published replies to a member of a desk, and disclose nothing of others' quiet chains
abbrev pub AreRepliesAt : DeskState → (reader : ℕ) → Part → List (List ℕ) → Type 0
AreRepliesAt d reader part rows =
    AreRepliesWithoutTrace d.setup (events_of (published_of d)) reader part rows

-- the published feed, and the row of each member, disclose nothing of quiet chains
pub record TellsNoSecret (d : DeskState) : Type 0 where
  pub feed_published : IsFeedWithoutTrace d.setup (events_of (published_of d)) (feed d.published)
  pub rows :
      (member : ℕ) → member < row_count
      → AreRepliesAt d member all_of_them (row_of d.rows member)

-- One more event.

-- what an event does at a desk's market
abbrev pub outcome_at : Seen → Event → Outcome
outcome_at market event = step market.setup market.market event

-- the number of slots of the log that an event may not take: none for the codes of the hours and for ticks, which alone
-- may use reserved slots
abbrev pub reserved_from : (reserved : ℕ) → Event → ℕ
reserved_from reserved (events.Message member time bytes) = reserved
reserved_from reserved (events.Tick time) = 0
reserved_from reserved (events.Hours time code) = 0
reserved_from reserved (events.Halt time stock state reason) = reserved
reserved_from reserved (events.Break time number) = reserved

-- the number of feed messages of the whole history, published or not
abbrev pub reached_of : DeskState → ℕ
reached_of d = length (feed (ledger d.setup d.history))

-- the number of slots of the log that are free for an event, and the number of its feed messages
abbrev pub free_of : DeskState → Event → ℕ
free_of d event = room_of d.log - reached_of d - reserved_from d.reserved event

abbrev pub needed_of : DeskState → Event → ℕ
needed_of d event = length (step d.setup d.market event).output.feed

-- why the market refuses an event, except when out of memory
abbrev pub refusal_of : DeskState → Event → Option PrepareError
refusal_of d event = refusal d.setup d.market.recorded event

-- The desk has grown by an entry, and published nothing: the entry's position in the history is counted from 1, and so is
-- the number of its first message of the feed.
pub record Grows (old new : DeskState) (entry : Entry) (done : Done) : Type 0 where
  pub log : new.log ≡ old.log
  pub setup : new.setup ≡ old.setup
  pub history : new.history ≡ old.history ++ entry ∷ []
  pub published_end : new.published_end ≡ old.published_end
  pub sealed : new.sealed ≡ old.sealed
  pub published : new.published ≡ old.published
  pub rows : new.rows ≡ old.rows
  pub place : done.place ≡ length new.history
  pub first : done.first ≡ reached_of old + 1
  pub count : done.count ≡ needed_of old entry.event
  pub accepted : refusal_of old entry.event ≡ None
  pub room : needed_of old entry.event ≤ free_of old entry.event
  pub reserved : new.reserved ≡ old.reserved

-- The sealed entries are published, and nothing else has changed.
pub record Releases (old new : DeskState) : Type 0 where
  pub log : new.log ≡ old.log
  pub setup : new.setup ≡ old.setup
  pub history : new.history ≡ old.history
  pub published_end : new.published_end ≡ old.sealed
  pub sealed : new.sealed ≡ old.sealed
  pub market : new.market ≡ old.market
  pub reserved : new.reserved ≡ old.reserved

-- The desk has grown by an entry, and all of its history is published: the log has the history with its feed, and each
-- row is its member's replies to the history. The entry's position in the history is counted from 1, and so is the number
-- of its first message of the feed.
pub record Submits (old new : DeskState) (entry : Entry) (done : Done) : Type 0 where
  pub log : new.log ≡ old.log
  pub setup : new.setup ≡ old.setup
  pub history : new.history ≡ old.history ++ entry ∷ []
  pub published_end : new.published_end ≡ length new.history
  pub sealed : new.sealed ≡ length new.history
  pub market : new.market ≡ run old.setup (events_of new.history)
  pub published : new.published ≡ ledger old.setup new.history
  pub rows :
      (member : ℕ) → member < row_count
      → row_of new.rows member ≡ replies_spelled (replies old.setup member (events_of new.history))
  pub place : done.place ≡ length new.history
  pub first : done.first ≡ length (feed old.published) + 1
  pub count : done.count ≡ needed_of old entry.event
  pub accepted : refusal_of old entry.event ≡ None
  pub room : needed_of old entry.event ≤ free_of old entry.event
  pub reserved : new.reserved ≡ old.reserved

-- The desk has grown by an event of no pass, and all of its history is published.
pub record Restores (old new : DeskState) (event : Event) : Type 0 where
  pub log : new.log ≡ old.log
  pub setup : new.setup ≡ old.setup
  pub history : new.history ≡ old.history ++ entry_of 0 event ∷ []
  pub published_end : new.published_end ≡ length new.history
  pub reserved : new.reserved ≡ old.reserved

-- A desk that was resumed from these events: they are its history, under no pass, all of it is published, and no slots
-- are reserved. Since it stands, its market, its feed and its members' rows are those of these events.
pub record IsResumed (id : LogId) (rules : Setup) (events : List Event)
    (d : DeskState) : Type 0 where
  pub log : d.log ≡ id
  pub setup : d.setup ≡ rules
  pub history : d.history ≡ restored events
  pub published_end : d.published_end ≡ length d.history
  pub reserved : d.reserved ≡ 0
  pub standing : IsStanding d

-- the event was not refused for its time, its member or a limit, and its messages of the feed exceed
-- the free slots
pub record IsFull (d : DeskState) (event : Event) (free needed : ℕ) : Type 0 where
  pub accepted : refusal_of d event ≡ None
  pub free_slots : free ≡ free_of d event
  pub messages : needed ≡ needed_of d event
  pub exceeds : free < needed

-- Why an event is refused: for its time, its member or a limit, as the market says; else, if none of these is wrong,
-- because its messages exceed the free slots, or when out of memory.
abbrev pub Faults : DeskState → Event → DeskError → Type 0
Faults d event fault.BadTime = refusal_of d event ≡ Some market.BadTime
Faults d event fault.NoMember = refusal_of d event ≡ Some market.NoMember
Faults d event (fault.Limit member) = refusal_of d event ≡ Some (market.Limit member)
Faults d event (fault.Full free needed) = IsFull d event free needed
Faults d event fault.NoMemory = refusal_of d event ≡ None

-- the number of messages that a writer published and staged
abbrev pub messages_in : WriterState Entry → ℕ
messages_in writer = length (feed writer.published) + length writer.staged

-- the messages of the feed are staged
abbrev pub with_staged : WriterState Entry → List Feed → WriterState Entry
with_staged writer messages =
    record writer { staged = writer.staged ++ feed_spelled messages }

-- code C, the last of the six hours codes, is past
abbrev pub is_over : Market → Bool
is_over market = nat_le 6 market.phase
