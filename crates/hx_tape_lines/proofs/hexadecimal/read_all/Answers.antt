use Rattle.std.proofs.Common.{◌+◌, refl, arith}
use Rattle.hx_tape_lines.proofs.Blocks.{none_read, read_later, all_read}
use Rattle.hx_tape_lines.proofs.hexadecimal.read_all.Goals as goal

pub loop-left-init : goal.loop-left-init
loop-left-init c = record { within = omega arith; read = none_read c.args.text.now _ c.requires }

pub returns-clause-yes : goal.returns-clause-yes
returns-clause-yes c so =
    let text = c.args.text.now in
    let later = read_later text c.loop-left.bytes c.loop-left.left (0 + 16) (omega (arith, c.loop-left-test.false)) c.loop-left.invariant.read in
    all_read text c.read_block-2.new.bytes 0 refl (c.read_block-2.ensures.yes so later)
