use Rattle.std.proofs.Common.{sym, subst}
use Rattle.hx_fenced_log.specs.declared.terms.reading.Reading.{Reading}
use Rattle.hx_fenced_log.specs.JournalStates.{HasRead}
use Rattle.hx_fenced_log.proofs.Known.{none_read}
use Rattle.hx_fenced_log.proofs.journal.follower.Follower.new.Goals as goal

pub at-requires : goal.at-requires
at-requires g c =
    let log = g.L.Log.committed c.args.log in
    subst (λ (r : Reading). HasRead log r) (sym c.new.ensures.reading) (none_read log)
