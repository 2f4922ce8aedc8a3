use Rattle.std.proofs.Common.{◌≡◌, ◌*◌, ℕ, List, true, false, take}
use Rattle.std.specs.Prelude.{◌≢◌}
use Rattle.hex.specs.Hex.{encode_lower, IsBytes}
use Rattle.hx_tape_lines.proofs.hexadecimal.read_into.Given as goal

abbrev pub invariant-loop-i : goal.invariant-loop-i
invariant-loop-i l = record {
  so_far : l.are_digits ≡ true → encode_lower (take l.i l.bytes) ≡ take (2 * l.i) l.text;
  none : l.are_digits ≡ false → (others : List ℕ) → IsBytes others → l.text ≢ encode_lower others;
  are_bytes : IsBytes l.bytes;
}
