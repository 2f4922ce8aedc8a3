use Rattle.std.proofs.Common.{◌≤◌, length}
use Rattle.hx_tape_lines.specs.Digits.{AreRead}
use Rattle.hx_tape_lines.proofs.hexadecimal.read_all.Given as goal

abbrev pub invariant-loop-left : goal.invariant-loop-left
invariant-loop-left l = record {
  within : l.left ≤ length l.bytes;
  read : AreRead l.text l.left l.bytes;
}

abbrev pub decreases-loop-left : goal.decreases-loop-left
decreases-loop-left l = l.left
