-- What the next active writer reads of a log once the writer before it has stopped.
use Rattle.std.specs.Prelude.{◌≡◌, ℕ, ◌≤◌, List, ◌++◌, take, get_or}
use Rattle.std.specs.List.{AllByRecursion}
use Rattle.hx_fenced_log.specs.declared.terms.reading.Reading.{Reading}
use Rattle.hx_fenced_log.specs.Records.{Record}
use Rattle.hx_fenced_log.specs.Terms.{start, after_all, taken, next_of}
use Rattle.hx_fenced_log.specs.declared.log.writer.LogWriter.{LogWriter}
use Rattle.hx_fenced_log.specs.JournalStates.{count_read, read_of}

-- the record by which a writer appends these lines next
abbrev pub next_record : Reading → List (List ℕ) → Record
next_record at lines = record { head = next_of at; lines = lines }

-- if a record is by this writer in this term, it is the one that was sent
abbrev pub IsSentIfOwn : (writer term : ℕ) → (sent r : Record) → Type 0
IsSentIfOwn writer term sent r = r.head.writer ≡ writer → r.head.term ≡ term → r ≡ sent

-- An active writer had read these records and sent that one, and then it stopped. The next writer takes over. Up to its
-- takeover it reads these records, and others after them. No other term begins among the others, and none of them is by
-- the writer before in its term but the record that it sent. So the next active writer reads these lines.
pub record IsLeft
    (writer : ℕ) (read : List Record) (sent : Record) (lines : List (List ℕ)) : Type 0 where
  pub others : List Record
  pub same_term : (after_all start (read ++ others)).term ≡ (after_all start read).term
  pub own : AllByRecursion (IsSentIfOwn writer (after_all start read).term sent) others
  pub is : lines ≡ taken start (read ++ others)

-- The record that a writer sends when it has read the first `count` records of a log: the one that it has read next
-- since then, or else the one with the lines that wait.
abbrev pub sent_then : List Record → Reading → (waiting : List (List ℕ)) → ℕ → Record
sent_then log at waiting count = get_or (read_of log at) count (next_record at waiting)

-- A writer stopped when it had read `moment` records or more, and the next active writer reads these lines. Its moments
-- are counted by the records that it has read.
pub record IsLeftSince
    (log : List Record) (w : LogWriter) (waiting : List (List ℕ)) (moment : ℕ)
    (lines : List (List ℕ)) : Type 0 where
  pub count : ℕ
  pub since : moment ≤ count
  pub until : count ≤ count_read w.reading
  pub left : IsLeft w.writer (take count log) (sent_then log w.reading waiting count) lines
