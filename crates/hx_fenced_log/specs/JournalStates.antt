-- A journal over a log, and a reader that may take over, as their contracts see them.
use Rattle.std.specs.Prelude.{◌≡◌, ℕ, ◌-◌, List, ◌++◌, take, Option, None, Some, Bool, true, false}
use Rattle.hx_journal.specs.Lines.{lines_of, text_of}
use Rattle.hx_fenced_log.specs.declared.terms.reading.Reading.{Reading}
use Rattle.hx_fenced_log.specs.Lines.{AreTapeLines}
use Rattle.hx_fenced_log.specs.Records.{Record}
use Rattle.hx_fenced_log.specs.Terms.{start, taken}
use Rattle.hx_fenced_log.specs.declared.log.error.KeepError.{KeepError}
use Rattle.hx_fenced_log.specs.declared.log.writer.LogWriter.{LogWriter}
use Rattle.hx_fenced_log.specs.Writers.{IsAt}

-- ---- what is read

-- how many records are read
abbrev pub count_read : Reading → ℕ
count_read at = at.number - 1

-- these records: the first ones of the log
abbrev pub read_of : List Record → Reading → List Record
read_of log at = take (count_read at) log

-- a reader that stands here has read them
abbrev pub HasRead : List Record → Reading → Type 0
HasRead log at = IsAt log (read_of log at) at

-- the lines that are taken of them
abbrev pub taken_of : List Record → Reading → List (List ℕ)
taken_of log at = taken start (read_of log at)

-- ---- a reader

-- a reader of a log: the log, and how far it has read it as this writer
pub record FollowerState (L : Type 0) : Type 0 where
  pub log : L
  pub writer : LogWriter

-- what it has reported
abbrev pub reported : {L : Type 0} → (L → List Record) → FollowerState L → List (List ℕ)
reported committed f = taken_of (committed f.log) f.writer.reading

-- It has reported this text more, which is these lines.
pub record TellsMore (before now : List (List ℕ)) (text : List ℕ) : Type 0 where
  pub more : List (List ℕ)
  pub now_is : now ≡ before ++ more
  pub text_is : text ≡ text_of more
  pub lines_are : lines_of text ≡ more

-- ---- a journal

-- A journal over a log: the log, its writer, the lines that wait for the next sync, and why it is
-- closed, if it is.
pub record LogJournalState (L : Type 0) : Type 0 where
  pub log : L
  pub writer : LogWriter
  pub waiting : List (List ℕ)
  pub fault : Option KeepError

-- the durable lines: those that are taken of what the writer has read
abbrev pub durable : {L : Type 0} → (L → List Record) → LogJournalState L → List (List ℕ)
durable committed j = taken_of (committed j.log) j.writer.reading

-- these, and the lines that wait
abbrev pub appended : {L : Type 0} → (L → List Record) → LogJournalState L → List (List ℕ)
appended committed j = durable committed j ++ j.waiting

-- whether nothing has closed it
abbrev pub is_open : Option KeepError → Bool
is_open None = true
is_open (Some error) = false

-- how many calls have closed it
abbrev pub faults : Option KeepError → ℕ
faults None = 0
faults (Some error) = 1

-- The invariant of a journal over its log, its writer and the text that waits: the writer has read
-- what it reports, its term stands there, and the text is lines of a tape.
pub record IsActive (log : List Record) (writer : LogWriter) (text : List ℕ) : Type 0 where
  pub read : HasRead log writer.reading
  pub active : writer.reading.writer ≡ writer.writer
  pub text_is : text ≡ text_of (lines_of text)
  pub lines : AreTapeLines (lines_of text)
