use Rattle.std.proofs.Common.{◌≡◌, ℕ, suc, ◌<◌, ◌≤◌, get_or}
use Rattle.hx_journal.proofs.surveying.torn_bytes.Given as goal

abbrev pub invariant-loop-i : goal.invariant-loop-i
invariant-loop-i l = record {
  inside : l.torn ≤ l.i;
  last : (k : ℕ) → suc k ≡ l.torn → get_or l.after k 0 ≡ 0 → ⊥;
  rest : (k : ℕ) → l.torn ≤ k → k < l.i → get_or l.after k 0 ≡ 0;
}
