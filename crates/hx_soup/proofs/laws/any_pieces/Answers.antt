use Rattle.hx_soup.proofs.Pieces as laws
use Rattle.hx_soup.proofs.laws.any_pieces.Goals as goal

pub returns : goal.returns
returns c = laws.any_pieces
