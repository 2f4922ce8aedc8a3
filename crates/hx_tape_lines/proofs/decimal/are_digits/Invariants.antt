use Rattle.std.proofs.Common.{◌≡◌, ◌≤◌, ◌<◌, ℕ, true, slice_index}
use Rattle.hx_tape_lines.proofs.decimal.are_digits.Given as goal

abbrev pub invariant-loop-i : goal.invariant-loop-i
invariant-loop-i l = l.are_digits ≡ true → (k : ℕ) → k < l.i → (48 ≤ slice_index l.block k) × (slice_index l.block k ≤ 57)
