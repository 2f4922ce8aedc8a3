use Rattle.std.proofs.Common.{◌≡◌, ◌<◌, ℕ, length, slice_index}
use Rattle.hx_desk.proofs.rows.clear.Given as goal

abbrev pub invariant-loop-member : goal.invariant-loop-member
invariant-loop-member l =
    (length l.counts.items ≡ 4096)
    × ((k : ℕ) → k < l.member-index → slice_index l.counts.items (slice_index l.members k) ≡ 0)
