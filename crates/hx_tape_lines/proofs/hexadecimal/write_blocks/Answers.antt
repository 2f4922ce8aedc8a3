use Rattle.std.proofs.Common.{◌≡◌, ◌+◌, ◌-◌, ◌*◌, ℕ, drop, length, sym, subst, arith}
use Rattle.hx_tape_lines.specs.Digits.{AreWritten}
use Rattle.hx_tape_lines.proofs.Blocks.{none_written}
use Rattle.hx_tape_lines.proofs.hexadecimal.write_blocks.Goals as goal

pub loop-left-init : goal.loop-left-init
loop-left-init g c = record { within = omega arith; written = none_written c.args.bytes.now _ }

pub loop-left-preserved : goal.loop-left-preserved
loop-left-preserved g c =
    let later = drop (c.args.start + 2 * length c.args.bytes.now) c.args.text.now in
    let whole : c.loop-left.left - g.row.N + g.row.N ≡ c.loop-left.left = omega arith in
    record {
      within = omega (arith, c.loop-left.invariant.within);
      written = c.write_block.ensures later (subst (λ (n : ℕ). AreWritten c.args.bytes.now n c.args.start c.loop-left.text later) (sym whole) c.loop-left.invariant.written);
    }
