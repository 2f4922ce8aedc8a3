use Rattle.hx_laws.proofs.Quiet.Partitions as laws
use Rattle.hx_laws.proofs.partitions.all_members.Goals as goal

pub returns : goal.returns
returns c = laws.all_members_in_all
