use Rattle.std.proofs.Common.{◌≡◌, ◌<◌, ℕ, map, length, slice_index, take}
use Rattle.hx_desk.specs.Rows.{times, row_texts, row_spare, HasRoomFor}
use Rattle.hx_desk.proofs.rows.make_room.Given as goal

abbrev pub invariant-loop-member : goal.invariant-loop-member
invariant-loop-member l =
    (length l.rows.items ≡ 4096)
    × (length l.counts.items ≡ 4096)
    × (map row_texts l.rows.items ≡ map row_texts l.fn.rows.items)
    × ((k : ℕ) → k < length l.members → slice_index l.counts.items (slice_index l.members k) ≡ times (slice_index l.members k) (take l.member-index l.members))
    × HasRoomFor (map row_spare l.rows.items) (take l.member-index l.members)
