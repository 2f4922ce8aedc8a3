-- The laws of the active writers of a log, one after the other.
use Rattle.std.specs.Prelude.{◌≡◌, ◌<◌, ◌≤◌, List, ℕ, drop}
use Rattle.std.specs.List.{AllByRecursion}
use mathlib.Core.List.{IsPrefix}
use Rattle.hx_fenced_log.specs.declared.terms.reading.Reading.{Reading}
use Rattle.hx_fenced_log.specs.Records.{Record}
use Rattle.hx_fenced_log.specs.declared.log.writer.LogWriter.{LogWriter}
use Rattle.hx_fenced_log.specs.JournalStates.{count_read, read_of, HasRead, taken_of}
use Rattle.hx_fenced_log.specs.Stops.{next_record, IsSentIfOwn, IsLeftSince}

-- Two have read a log, the one in an earlier term than the other. The lines that the other takes begin
-- with all that the one takes.
abbrev pub NothingDurableIsLost : Type 0
NothingDurableIsLost =
    (log : List Record) (earlier later : Reading)
    → HasRead log earlier
    → HasRead log later
    → earlier.term < later.term
    → IsPrefix (taken_of log earlier) (taken_of log later)

-- A writer is active, and another reads on in the same term, before it takes over. If what the other has read after the
-- writer has no record by the writer in this term but the one with the lines that wait, then it takes what is left if
-- the writer stops now.
abbrev pub TheNextReadsWhatIsLeft : Type 0
TheNextReadsWhatIsLeft =
    (log : List Record) (w : LogWriter) (waiting : List (List ℕ)) (next : Reading)
    → HasRead log w.reading
    → HasRead log next
    → next.term ≡ w.reading.term
    → count_read w.reading ≤ count_read next
    → AllByRecursion
    (IsSentIfOwn w.writer w.reading.term (next_record w.reading waiting))
    (drop (count_read w.reading) (read_of log next))
    → IsLeftSince log w waiting (count_read w.reading) (taken_of log next)
