use Rattle.std.proofs.Common.{arith}
use Rattle.hx_tape_lines.proofs.Blocks.{odd_none}
use Rattle.hx_tape_lines.proofs.hexadecimal.read_bytes.Goals as goal

pub returns-then-text-gt0-clause-no : goal.returns-then-text-gt0-clause-no
returns-then-text-gt0-clause-no c _ bytes _ = odd_none c.args.text.now bytes (omega (arith, c.if-text-gt0.true))
