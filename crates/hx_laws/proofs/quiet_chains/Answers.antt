use Rattle.hx_laws.proofs.Quiet.StruckRuns as runs
use Rattle.hx_laws.proofs.quiet_chains.Goals as goal

pub returns : goal.returns
returns c = runs.quiet_chains
