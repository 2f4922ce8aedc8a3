use Rattle.std.proofs.Common.{ℕ, List, subst}
use Rattle.hx_journal.specs.Lines.{lines_of}
use Rattle.hx_journal.specs.Crashes.{IsBetween}
use Rattle.hx_fenced_log.specs.JournalStates.{durable, appended, count_read}
use Rattle.hx_fenced_log.specs.Stops.{IsLeftSince}
use Rattle.hx_fenced_log.proofs.Leaving.{stands_between}
use Rattle.hx_fenced_log.proofs.journal.log_journal.LogJournalJournal.stands.Goals as goal

pub returns : goal.returns
returns g c = λ is.
    subst (λ j. (lines : List (List ℕ)) → IsLeftSince (g.L.Log.committed j.log) j.writer j.waiting (count_read j.writer.reading) lines → IsBetween (durable g.L.Log.committed j) lines (appended g.L.Log.committed j)) c.self.view_is
    (λ lines left. stands_between (g.L.Log.committed c.self.inside.log) c.self.inside.writer (lines_of c.self.inside.waiting.items) lines c.self.invariant.read c.self.invariant.active left)
