use Rattle.hx_laws.proofs.Quiet.Partitions as laws
use Rattle.hx_laws.proofs.partitions.one_member.Goals as goal

pub returns : goal.returns
returns c = record { all = laws.one_member_in_all; one = laws.one_member_in_one }
