use Rattle.hx_laws.proofs.Quiet.StruckOfAll as all
use Rattle.hx_laws.proofs.replies_alone.Goals as goal

pub returns : goal.returns
returns c = all.replies_alone
