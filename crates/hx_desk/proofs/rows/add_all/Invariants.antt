use Rattle.std.proofs.Common.{◌≡◌, map, length, drop}
use Rattle.hx_desk.specs.Rows.{row_texts, row_spare, with_replies, HasRoomFor}
use Rattle.hx_desk.proofs.rows.add_all.Given as goal

abbrev pub invariant-loop-member : goal.invariant-loop-member
invariant-loop-member l =
    (length l.rows.items ≡ 4096)
    × (with_replies (map row_texts l.rows.items) (drop l.member-index l.replies) ≡ with_replies (map row_texts l.fn.rows.items) l.replies)
    × HasRoomFor (map row_spare l.rows.items) (map (λ r. r.0) (drop l.member-index l.replies))
