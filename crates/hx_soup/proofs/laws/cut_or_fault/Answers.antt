use Rattle.hx_soup.proofs.Readings as laws
use Rattle.hx_soup.proofs.laws.cut_or_fault.Goals as goal

pub returns : goal.returns
returns c = laws.cut_or_fault
