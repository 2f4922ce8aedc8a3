-- Why a journal over a log does not append a line, or does not sync the lines that wait.
use Rattle.std.specs.Prelude.{◌≡◌, List, ℕ, Option, None, Some, false}
use Rattle.hx_journal.specs.declared.error.JournalError.{JournalError}
use Rattle.hx_journal.specs.declared.error.JournalError.TheVariants as reported
use Rattle.hx_fenced_log.specs.Records.{Record}
use Rattle.hx_fenced_log.specs.declared.log.error.KeepError.{KeepError}
use Rattle.hx_fenced_log.specs.declared.log.writer.LogWriter.{LogWriter}
use Rattle.hx_fenced_log.specs.WriterFaults.{IsKeepFault}
use Rattle.hx_fenced_log.specs.JournalStates.{is_open}

-- the only errors of an append: the journal is closed, or else there is no memory
abbrev pub IsAppendFault : (fault : Option KeepError) → JournalError → Type 0
IsAppendFault fault reported.Memory = fault ≡ None
IsAppendFault fault reported.NoRoom = ⊥
IsAppendFault fault reported.Failed = ⊥
IsAppendFault fault reported.Full = ⊥
IsAppendFault fault reported.Closed = is_open fault ≡ false

-- An open journal is closed by this fault: the reason for which the writer's `keep` of the text
-- fails.
pub record IsClosedBy
    (before later : List Record) (writer : LogWriter) (text : List ℕ) (old new : Option KeepError)
    : Type 0 where
  pub error : KeepError
  pub was_open : old ≡ None
  pub fault : new ≡ Some error
  pub reason : IsKeepFault before later writer text error

-- The only errors of a sync. If memory lacks, the journal stays open; any other error of the writer
-- closes it.
abbrev pub IsSyncFault : (before later : List Record) → LogWriter → (text : List ℕ)
    → (old new : Option KeepError) → JournalError → Type 0
IsSyncFault before later writer text old new reported.Memory = (old ≡ None) × (new ≡ None)
IsSyncFault before later writer text old new reported.NoRoom = ⊥
IsSyncFault before later writer text old new reported.Failed =
    IsClosedBy before later writer text old new
IsSyncFault before later writer text old new reported.Full = ⊥
IsSyncFault before later writer text old new reported.Closed = (is_open old ≡ false) × (new ≡ old)
