use Rattle.std.proofs.Common.{arith}
use Rattle.hx_tape_lines.proofs.Eights.{eight_digits}
use Rattle.hx_tape_lines.proofs.decimal.eight_digits.Goals as goal

pub returns : goal.returns
returns c = eight_digits c.args.block (omega (arith, c.well_formed)) (c.are_digits.ensures c.if-not-are_digits.false) c.from_le_bytes-values.result c.from_le_bytes-values.ensures
