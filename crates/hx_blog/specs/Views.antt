-- What the seats of a log know. A seat stands for an end of the log: the writer, a reader or a receipt.
use Rattle.std.specs.Prelude.{◌≡◌, ℕ, ◌+◌, ◌*◌, ◌≤◌, List, [], length, true, false}
use Rattle.atomic_table.specs.Table.{State, Me}
use Rattle.hx_blog.specs.Ends.{LogId, most_room}
use Rattle.hx_blog.specs.Feed.{Entries, feed}
use Rattle.hx_blog.specs.declared.view.View.{View}

-- the words of a log, and the view of each seat; a log has no slots
abbrev pub LogState : Type 0 → Type 0
LogState E = State (Unit {0}) (View E)

-- a seat's view, and the slots that it holds, which are none
abbrev pub SeatState : Type 0 → Type 0
SeatState E = Me (Unit {0}) (View E)

module _ {E : Type 0} where
  -- the writer's view
  abbrev pub writing : (room : ℕ) → (known : Entries E) → (staged : List (List ℕ))
      → (begun : List ℕ) → View E
  writing room known staged begun =
      record {
        gone = false;
        writes = true;
        room = room;
        known = known;
        received = [];
        staged = staged;
        begun = begun;
        read = 0;
        loads = 0;
      }

  -- the view of a reader, or of a receipt, which has read nothing and loaded nothing
  abbrev pub reading : (room : ℕ) → (known : Entries E) → (read loads : ℕ) → View E
  reading room known read loads =
      record {
        gone = false;
        writes = false;
        room = room;
        known = known;
        received = [];
        staged = [];
        begun = [];
        read = read;
        loads = loads;
      }

  -- the view of a seat that was joined into another
  abbrev pub spent : View E
  spent =
      record {
        gone = true;
        writes = false;
        room = 0;
        known = [];
        received = [];
        staged = [];
        begun = [];
        read = 0;
        loads = 0;
      }

  -- the writer's seat between two calls: no message is begun
  abbrev pub IsWriting : SeatState E → Type 0
  IsWriting me = me ≡ (writing me.0.room me.0.known me.0.staged [], [])

  -- a reader's or a receipt's seat between two calls
  abbrev pub IsReading : SeatState E → Type 0
  IsReading me = me ≡ (reading me.0.room me.0.known me.0.read me.0.loads, [])

  -- What holds of a writer between two calls: its seat fits its log, and it counts what it published and what it
  -- staged, for which there is room.
  pub record KeepsWriting (log : LogId) (me : SeatState E) (count staged : ℕ) : Type 0 where
    pub writing : IsWriting me
    pub words : log.words ≡ 6 * me.0.room + 1
    pub limit : me.0.room ≤ most_room
    pub published : count ≡ length (feed me.0.known)
    pub above : staged ≡ length me.0.staged
    pub room : count + staged ≤ me.0.room

  -- What holds of a reader between two calls: its seat fits its log; it has read at most the count that it has seen,
  -- which is at most the number of messages that it knows.
  pub record KeepsReading (log : LogId) (me : SeatState E) (seen read : ℕ) : Type 0 where
    pub reading : IsReading me
    pub words : log.words ≡ 6 * me.0.room + 1
    pub limit : me.0.room ≤ most_room
    pub has_read : read ≡ me.0.read
    pub in_order : read ≤ seen
    pub known : seen ≤ length (feed me.0.known)
    pub room : seen ≤ me.0.room
