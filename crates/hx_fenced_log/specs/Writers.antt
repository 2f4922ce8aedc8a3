-- What a writer of a log has read, and what it may report.
use Rattle.std.specs.Prelude.{◌≡◌, ℕ, ◌+◌, true, List, [], ◌∷◌, ◌++◌}
use mathlib.Core.List.{IsPrefix}
use Rattle.hx_journal.specs.Lines.{text_of}
use Rattle.hx_fenced_log.specs.declared.terms.reading.Reading.{Reading}
use Rattle.hx_fenced_log.specs.Lines.{AreTapeLines}
use Rattle.hx_fenced_log.specs.Records.{Record}
use Rattle.hx_fenced_log.specs.Terms.{counts, start, after_all, taken}
use Rattle.hx_fenced_log.specs.declared.log.writer.LogWriter.{LogWriter}

-- these records are read, the first ones of the log, and what stands after them is known
pub record IsAt (log known : List Record) (at : Reading) : Type 0 where
  pub begins : IsPrefix known log
  pub reading : at ≡ after_all start known

-- More records are read, and the text is the lines that are taken of them: with those that were
-- taken before, the lines that are taken of all that is read.
pub record Follows (log known : List Record) (old new : Reading) (text : List ℕ) : Type 0 where
  pub more : List Record
  pub at : IsAt log (known ++ more) new
  pub lines : AreTapeLines (taken old more)
  pub text_is : text ≡ text_of (taken old more)
  pub reported : taken start (known ++ more) ≡ taken start known ++ taken old more

-- One record is read, the writer's own, which counts, and the text is its lines: with those that
-- were taken before, the lines that are taken of all that is read.
pub record Keeps (log known : List Record) (old new : LogWriter) (text : List ℕ) : Type 0 where
  pub durable : Record
  pub at : IsAt log (known ++ durable ∷ []) new.reading
  pub by : durable.head.writer ≡ old.writer
  pub counts_now : counts old.reading durable.head ≡ true
  pub lines : AreTapeLines durable.lines
  pub text_is : text ≡ text_of durable.lines
  pub reported : taken start (known ++ durable ∷ []) ≡ taken start known ++ durable.lines

-- One record is read, which has no lines, and by which the next term stands, the writer's own.
pub record TakesOver (log known : List Record) (old new : LogWriter) : Type 0 where
  pub durable : Record
  pub at : IsAt log (known ++ durable ∷ []) new.reading
  pub active : new.reading.writer ≡ new.writer
  pub same : new.writer ≡ old.writer
  pub term : new.reading.term ≡ old.reading.term + 1
  pub reported : taken start (known ++ durable ∷ []) ≡ taken start known
