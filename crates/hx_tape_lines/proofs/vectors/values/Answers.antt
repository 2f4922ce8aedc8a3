use Rattle.hx_tape_lines.proofs.Values.{chosen}
use Rattle.hx_tape_lines.proofs.vectors.values.Goals as goal

pub returns : goal.returns
returns c = chosen c.args.codes c.fits-codes.0 c.fits-codes.1
