use Rattle.hx_operator.proofs.Numbers.{number_read}
use Rattle.hx_operator.proofs.names.number_of.Goals as goal

pub returns : goal.returns
returns c = number_read c.args.word.now c.read_number.result c.read_number.ensures.some c.read_number.ensures.none
