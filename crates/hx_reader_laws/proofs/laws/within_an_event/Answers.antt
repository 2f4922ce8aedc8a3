use Rattle.hx_reader_laws.proofs.Beginnings.{within_an_event}
use Rattle.hx_reader_laws.proofs.laws.within_an_event.Goals as goal

pub returns : goal.returns
returns c = within_an_event
