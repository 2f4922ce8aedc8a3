use Rattle.hx_reader_laws.proofs.Screens.{is_all_of_it}
use Rattle.hx_reader_laws.proofs.laws.is_all_of_it.Goals as goal

pub returns : goal.returns
returns c = is_all_of_it
