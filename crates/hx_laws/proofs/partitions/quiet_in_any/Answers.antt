use Rattle.hx_laws.proofs.Quiet.Partitions as laws
use Rattle.hx_laws.proofs.partitions.quiet_in_any.Goals as goal

pub returns : goal.returns
returns c = laws.quiet_in_any
