use Rattle.hx_reader_laws.proofs.Calls.{runs_so}
use Rattle.hx_reader_laws.proofs.laws.runs_so.Goals as goal

pub returns : goal.returns
returns c = runs_so
