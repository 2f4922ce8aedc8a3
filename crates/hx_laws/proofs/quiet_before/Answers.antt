use Rattle.hx_laws.proofs.Quiet.QuietBefore as before
use Rattle.hx_laws.proofs.quiet_before.Goals as goal

pub returns : goal.returns
returns c = before.quiet_before
