use Rattle.hx_show.proofs.Cuts.{number_reads}
use Rattle.hx_show.proofs.reading.number_of.Goals as goal

pub returns : goal.returns
returns c = number_reads c.args.text.now c.read_number.result c.read_number.ensures.some c.read_number.ensures.none
