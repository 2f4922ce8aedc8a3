use Rattle.std.proofs.Common.{◌≡◌, ◌+◌, ◌<◌, ℕ, suc, List, ◌∷◌, map, length, drop, set, get_or, ap, sym, ◌∙◌, subst, arith}
use Rattle.std.proofs.Math.Seq.{drop-cons}
use lib.ListN.{length-set}
use Rattle.hx_market.specs.Outputs.{Reply}
use Rattle.hx_desk.specs.Rows.{row_texts, row_spare, with_reply, with_replies, HasRoomFor}
use Rattle.hx_desk.proofs.RowLaws.{added, has_room, room_left}
use Rattle.hx_desk.proofs.rows.add_all.Goals as goal

next : {A : Type 0} (xs : List A) (i : ℕ) (x : A) → i < length xs → x ≡ get_or xs i x → drop i xs ≡ x ∷ drop (i + 1) xs
next xs i x in' is = drop-cons xs i x in' ∙ ap (λ y. y ∷ drop (suc i) xs) (sym is) ∙ ap (λ k. x ∷ drop k xs) (let e : suc i ≡ i + 1 = omega arith in e)

pub push_reserved-requires : goal.push_reserved-requires
push_reserved-requires c =
    let rows = c.loop-member.rows.items in
    let replies = c.args.replies.now in
    let item = c.loop-member-item.result in
    let rest = map (λ (r : Reply). r.0) (drop (c.loop-member.member-index + 1) replies) in
    let room : HasRoomFor (map row_spare rows) (c.get.result ∷ rest) =
    subst (λ ms. HasRoomFor (map row_spare rows) ms) (ap (map (λ (r : Reply). r.0)) (next replies c.loop-member.member-index item (omega arith) c.loop-member-item.is) ∙ ap (λ k. k ∷ rest) (sym c.get.ensures.value)) c.loop-member.invariant.2 in
    omega (arith, has_room rows c.get.result c.index_mut-row.result.now rest (omega (arith, c.get.ensures.range, c.get.ensures.value)) (omega (arith, c.get.ensures.range, c.get.ensures.value)) c.index_mut-row.ensures.value room)

pub loop-member-preserved : goal.loop-member-preserved
loop-member-preserved c =
    let rows = c.loop-member.rows.items in
    let replies = c.args.replies.now in
    let item = c.loop-member-item.result in
    let here = next replies c.loop-member.member-index item (omega arith) c.loop-member-item.is in
    let rest = map (λ (r : Reply). r.0) (drop (c.loop-member.member-index + 1) replies) in
    let small : c.get.result < 4096 = omega (arith, c.get.ensures.range, c.get.ensures.value) in
    let in_range : c.get.result < length rows = omega (arith, small) in
    let room : HasRoomFor (map row_spare rows) (c.get.result ∷ rest) =
    subst (λ ms. HasRoomFor (map row_spare rows) ms) (ap (map (λ (r : Reply). r.0)) here ∙ ap (λ k. k ∷ rest) (sym c.get.ensures.value)) c.loop-member.invariant.2 in
    let more : map row_texts (set rows c.get.result c.push_reserved.new.self) ≡ with_reply (map row_texts rows) item =
    added rows c.get.result c.index_mut-row.result.now c.push_reserved.new.self c.encode_out.result item.1 in_range c.index_mut-row.ensures.value c.push_reserved.ensures.items c.encode_out.ensures.bytes
    ∙ ap (λ k. with_reply (map row_texts rows) (k, item.1)) c.get.ensures.value in (
      length-set rows c.get.result c.push_reserved.new.self ∙ c.loop-member.invariant.0,
      ap (λ rs. with_replies rs (drop (c.loop-member.member-index + 1) replies)) more ∙ ap (with_replies (map row_texts rows)) (sym here) ∙ c.loop-member.invariant.1,
      room_left rows c.get.result c.index_mut-row.result.now c.push_reserved.new.self rest in_range small c.index_mut-row.ensures.value c.push_reserved.ensures.len c.push_reserved.ensures.capacity room,
    )
