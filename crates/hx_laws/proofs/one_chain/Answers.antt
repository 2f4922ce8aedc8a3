use Rattle.hx_laws.proofs.Quiet.OneChain as chain
use Rattle.hx_laws.proofs.one_chain.Goals as goal

pub returns : goal.returns
returns c = chain.one_chain
