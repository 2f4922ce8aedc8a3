use Rattle.hx_reader_laws.proofs.Calls.{shows_the_book}
use Rattle.hx_reader_laws.proofs.laws.shows_the_book.Goals as goal

pub returns : goal.returns
returns g c = shows_the_book _
