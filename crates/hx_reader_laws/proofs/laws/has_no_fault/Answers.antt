use Rattle.hx_reader_laws.proofs.FaultlessEvents.{has_no_fault}
use Rattle.hx_reader_laws.proofs.laws.has_no_fault.Goals as goal

pub returns : goal.returns
returns c = has_no_fault
