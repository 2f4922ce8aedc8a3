use Rattle.std.proofs.Common.{length}
use Rattle.hx_journal.specs.Lines.{lines_of}
use Rattle.hx_fenced_log.specs.Mirrors.{IsHalfWritten}
use Rattle.hx_fenced_log.proofs.mirror.writing.write_records.Given as goal

abbrev pub decreases-loop-line : goal.decreases-loop-line
decreases-loop-line g l = length l.rest

-- some of the records are appended, and the rest is the others
abbrev pub invariant-loop-line : goal.invariant-loop-line
invariant-loop-line g l = IsHalfWritten (g.M.Journal.appended l.fn.mirror) (g.M.Journal.appended l.mirror) (lines_of l.text) l.rest
