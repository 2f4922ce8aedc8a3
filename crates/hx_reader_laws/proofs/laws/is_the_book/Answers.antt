use Rattle.hx_reader_laws.proofs.Screens.{is_the_book}
use Rattle.hx_reader_laws.proofs.laws.is_the_book.Goals as goal

pub returns : goal.returns
returns c = is_the_book
