use Rattle.std.proofs.Common.{◌≡◌, ◌+◌, ◌<◌, ℕ, length, slice_index, take}
use Rattle.hx_desk.specs.Rows.{times}
use Rattle.hx_desk.proofs.rows.raise.Given as goal

abbrev pub invariant-loop-member : goal.invariant-loop-member
invariant-loop-member l =
    (length l.counts.items ≡ 4096)
    × ((m : ℕ) → m < 4096 → slice_index l.counts.items m ≡ slice_index l.fn.counts.items m + times m (take l.member-index l.members))
