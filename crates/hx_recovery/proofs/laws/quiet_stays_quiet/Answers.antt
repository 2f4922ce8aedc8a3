use Rattle.hx_recovery.proofs.Recovering.{quiet_stays_quiet, nothing_across}
use Rattle.hx_recovery.proofs.laws.quiet_stays_quiet.Goals as goal

pub returns : goal.returns
returns c = record { since = quiet_stays_quiet; across = nothing_across }
