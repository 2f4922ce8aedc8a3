-- Whole lives of processes that read and write one log, by the contracts of their calls.
use Rattle.std.specs.Prelude.{◌≡◌, ℕ, List, [], ◌∷◌, ◌++◌}
use mathlib.Core.List.{IsPrefix}
use Rattle.hx_fenced_log.specs.Records.{Record}
use Rattle.hx_fenced_log.specs.Terms.{start}
use Rattle.hx_fenced_log.specs.declared.log.writer.LogWriter.{LogWriter}
use Rattle.hx_fenced_log.specs.Writers.{IsAt, Follows, Keeps, TakesOver}

-- a call of a writer that went well, with the text that may be reported by it; or one that did not
pub data Call : Type 0 where
  Followed : (text : List ℕ) → Call
  Durable : (text : List ℕ) → Call
  TookOver : Call
  Failed : Call

-- what may be reported by a call
abbrev pub text_by : Call → List ℕ
text_by (Followed text) = text
text_by (Durable text) = text
text_by TookOver = []
text_by Failed = []

-- what the contract of a call promises of the log and the writer before it and after it
abbrev pub Does : (before later : List Record) (old new : LogWriter) → Call → Type 0
Does before later old new (Followed text) =
    (known : List Record) → IsAt before known old.reading
    → Follows later known old.reading new.reading text
Does before later old new (Durable text) =
    (known : List Record) → IsAt before known old.reading → Keeps later known old new text
Does before later old new TookOver =
    (known : List Record) → IsAt before known old.reading → TakesOver later known old new
Does before later old new Failed = new ≡ old

-- a call, the log that it finds, and the log and the writer that it leaves
pub record Called : Type 0 where
  pub call : Call
  pub before : List Record
  pub later : List Record
  pub writer : LogWriter

-- Calls one after the other, from this log and this writer on. The log only grows: by these calls,
-- and before each of them by those of others.
abbrev pub AreCalls : List Record → LogWriter → List Called → Type 0
AreCalls log writer [] = Unit {0}
AreCalls log writer (c ∷ calls) =
    IsPrefix log c.before
    × IsPrefix c.before c.later
    × Does c.before c.later writer c.writer c.call
    × AreCalls c.later c.writer calls

-- the log after these calls
abbrev pub log_after : List Record → List Called → List Record
log_after log [] = log
log_after log (c ∷ calls) = log_after c.later calls

-- what may be reported by them, in order
abbrev pub text_of_calls : List Called → List ℕ
text_of_calls [] = []
text_of_calls (c ∷ calls) = text_by c.call ++ text_of_calls calls

-- A process has reported this, to anybody: it began with nothing read, made these calls on this log, and reported a
-- beginning of what may be reported by them.
pub record HasReported (committed : List Record) (reported : List ℕ) : Type 0 where
  pub writer : LogWriter
  pub calls : List Called
  pub began : writer.reading ≡ start
  pub are_calls : AreCalls [] writer calls
  pub of_log : IsPrefix (log_after [] calls) committed
  pub reported_is : IsPrefix reported (text_of_calls calls)
