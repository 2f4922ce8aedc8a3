use Rattle.std.proofs.Common.{subst}
use Rattle.hx_fenced_log.specs.JournalStates.{HasRead}
use Rattle.hx_fenced_log.proofs.journal.log_journal.LogJournal.is_active_now.Goals as goal

pub returns-clause-read : goal.returns-clause-read
returns-clause-read g c = subst (λ j. HasRead (g.L.Log.committed j.log) j.writer.reading) c.self.view_is c.self.invariant.read
