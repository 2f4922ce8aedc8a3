use Rattle.std.proofs.Common.{◌≤◌, ◌+◌, ◌*◌, length, drop}
use Rattle.hx_tape_lines.specs.Digits.{AreWritten}
use Rattle.hx_tape_lines.proofs.hexadecimal.write_blocks.Given as goal

abbrev pub invariant-loop-left : goal.invariant-loop-left
invariant-loop-left g l = record {
  within : l.left ≤ length l.bytes;
  written : AreWritten l.bytes l.left l.start l.text (drop (l.start + 2 * length l.bytes) l.fn.text);
}

abbrev pub decreases-loop-left : goal.decreases-loop-left
decreases-loop-left g l = l.left
