use Rattle.std.proofs.Common.{length}
use Rattle.hx_rates.proofs.tape.read_tape.Given as goal

abbrev pub decreases-loop-line : goal.decreases-loop-line
decreases-loop-line g l = length l.rest
