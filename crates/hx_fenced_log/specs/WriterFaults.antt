-- Why `keep` or `take_over` of a writer of a log fails.
use Rattle.std.specs.Prelude.{◌≡◌, ◌≢◌, ℕ, ◌+◌, ◌<◌, ◌≤◌, List, length}
use Rattle.hx_fenced_log.specs.Records.{Record, IsHead}
use Rattle.hx_fenced_log.specs.Lines.{IsRecordFault}
use Rattle.hx_fenced_log.specs.Terms.{next_of, takeover_of}
use Rattle.hx_fenced_log.specs.declared.log.error.LogError.{LogError}
use Rattle.hx_fenced_log.specs.declared.log.error.LogError.TheVariants as refusal
use Rattle.hx_fenced_log.specs.declared.log.error.KeepError.{KeepError}
use Rattle.hx_fenced_log.specs.declared.log.error.KeepError.TheVariants as fault
use Rattle.hx_fenced_log.specs.declared.log.writer.LogWriter.{LogWriter}

-- What a log says of a number by not appending there: if it is taken, a record stands there; if there is a gap, none
-- stood at the number before.
abbrev pub IsRefused : (before later : List Record) → (number : ℕ) → LogError → Type 0
IsRefused before later number refusal.Taken = number ≤ length later
IsRefused before later number refusal.Gap = length before + 1 < number
IsRefused before later number refusal.Unknown = Unit {0}
IsRefused before later number refusal.Unreachable = Unit {0}
IsRefused before later number (refusal.NoRecord other) = Unit {0}
IsRefused before later number (refusal.Trimmed other) = Unit {0}
IsRefused before later number (refusal.BadCopy other) = Unit {0}
IsRefused before later number refusal.NoMemory = Unit {0}

-- the only error of an append
abbrev pub IsAppendFault : (before later : List Record) → (number : ℕ) → KeepError → Type 0
IsAppendFault before later number fault.NotActive = ⊥
IsAppendFault before later number fault.NoHead = ⊥
IsAppendFault before later number (fault.Lines error) = ⊥
IsAppendFault before later number (fault.Log error) = IsRefused before later number error

-- Why `keep` fails: the writer is not active; else a record of a log may not have its next head, or not these lines;
-- else the log did not append the record.
abbrev pub IsKeepFault : (before later : List Record) → LogWriter → (text : List ℕ)
    → KeepError → Type 0
IsKeepFault before later w text fault.NotActive = w.reading.writer ≢ w.writer
IsKeepFault before later w text fault.NoHead =
    (w.reading.writer ≡ w.writer) × ¬ IsHead (next_of w.reading)
IsKeepFault before later w text (fault.Lines error) =
    (w.reading.writer ≡ w.writer) × IsRecordFault (next_of w.reading) text error
IsKeepFault before later w text (fault.Log error) =
    (w.reading.writer ≡ w.writer) × IsRefused before later w.reading.number error

-- Why a writer does not take over: a record of a log may not have the head of its takeover; else the
-- log did not append the record.
abbrev pub IsTakeoverFault : (before later : List Record) → LogWriter → KeepError → Type 0
IsTakeoverFault before later w fault.NotActive = ⊥
IsTakeoverFault before later w fault.NoHead = ¬ IsHead (takeover_of w.writer w.reading)
IsTakeoverFault before later w (fault.Lines error) = ⊥
IsTakeoverFault before later w (fault.Log error) =
    IsRefused before later w.reading.number error
