use Rattle.hx_reader_laws.proofs.Beginnings.{at_an_event}
use Rattle.hx_reader_laws.proofs.laws.at_an_event.Goals as goal

pub returns : goal.returns
returns c = at_an_event
