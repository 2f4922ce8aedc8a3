use Rattle.hx_soup.proofs.Readings as laws
use Rattle.hx_soup.proofs.laws.one_fault.Goals as goal

pub returns : goal.returns
returns c = laws.one_fault
