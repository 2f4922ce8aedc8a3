use Rattle.std.proofs.Common.{subst}
use Rattle.hx_fenced_log.specs.JournalStates.{HasRead}
use Rattle.hx_fenced_log.proofs.journal.follower.Follower.stands.Goals as goal

pub returns : goal.returns
returns g c = subst (λ f. HasRead (g.L.Log.committed f.log) f.writer.reading) c.self.view_is c.self.invariant
