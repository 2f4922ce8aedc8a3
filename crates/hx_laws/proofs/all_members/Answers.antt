use Rattle.hx_laws.proofs.Quiet.StruckOfAll as all
use Rattle.hx_laws.proofs.all_members.Goals as goal

pub returns : goal.returns
returns c = all.all_members
