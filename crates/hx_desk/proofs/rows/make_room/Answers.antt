use Rattle.std.proofs.Common.{◌≡◌, ◌+◌, ◌<◌, ◌≤◌, inl, inr, ℕ, List, Bool, cond, eqb, eq-eqb, get_or, map, length, slice_index, set, take, ap, sym, ◌∙◌, arith}
use Rattle.std.proofs.lemmas.Grind.{get_or_default_zero}
use Rattle.std.proofs.lemmas.List.{get_or_read}
use lib.ListN.{length-set}
use Rattle.hx_units.specs.Fields.{texts}
use Rattle.hx_desk.specs.Rows.{times, row_texts, row_spare}
use Rattle.hx_desk.proofs.RowLaws.{same_set, room_set, next_time, times_at_most, raised, room_next}
use Rattle.hx_desk.proofs.rows.make_room.Goals as goal

-- the count before the loop's step is the number of times that the member was met
counted : (counts members : List ℕ) (i row_index n : ℕ) → i < length members → row_index < length counts → row_index ≡ slice_index members i → n ≡ get_or counts row_index n
    → ((k : ℕ) → k < length members → slice_index counts (slice_index members k) ≡ times (slice_index members k) (take i members))
    → (n ≡ slice_index counts row_index) × (n ≡ times row_index (take i members))
counted counts members i row_index n within in' is at all =
    let read : n ≡ slice_index counts row_index = get_or_read counts row_index n in' at 0 in
    (read, read ∙ ap (slice_index counts) is ∙ all i within ∙ ap (λ (m : ℕ). times m (take i members)) (sym is))

pub overflow_add-count : goal.overflow_add-count
overflow_add-count c =
    let members = c.args.members.now in
    let i = c.loop-member.member-index in
    let is : c.get-row_index.result ≡ slice_index members i = c.get-row_index.ensures.value ∙ c.member-item.is ∙ get_or_default_zero members i c.member-item.result (omega arith) in
    let n = counted c.loop-member.counts.items members i c.get-row_index.result c.index.result.now (omega arith) (omega (arith, c.get-row_index.ensures.range)) is c.index.ensures c.loop-member.invariant.3 in
    omega (arith, n.1, times_at_most c.get-row_index.result members i)

pub returns-in_err-reserve-clause-same : goal.returns-in_err-reserve-clause-same
returns-in_err-reserve-clause-same c =
    same_set row_texts c.loop-member.rows.items c.get-row_index.result c.index_mut-row.result.now c.reserve.new.self (omega (arith, c.get-row_index.ensures.range)) c.index_mut-row.ensures.value (ap texts c.reserve.ensures.items)
    ∙ c.loop-member.invariant.2

pub loop-member-preserved : goal.loop-member-preserved
loop-member-preserved c =
    let rows = c.loop-member.rows.items in
    let counts = c.loop-member.counts.items in
    let members = c.args.members.now in
    let i = c.loop-member.member-index in
    let row_index = c.get-row_index.result in
    let within : i < length members = omega arith in
    let in_rows : row_index < length rows = omega (arith, c.get-row_index.ensures.range) in
    let in_counts : row_index < length counts = omega (arith, c.get-row_index.ensures.range) in
    let is : row_index ≡ slice_index members i = c.get-row_index.ensures.value ∙ c.member-item.is ∙ get_or_default_zero members i c.member-item.result within in
    let count = counted counts members i row_index c.index.result.now within in_counts is c.index.ensures c.loop-member.invariant.3 in
    let once : ◌≡◌ {A = ℕ} (cond (eqb (slice_index members i) row_index) 1 0) 1 = ap (λ (b : Bool). cond b 1 0) (eq-eqb (slice_index members i) row_index (sym is)) in
    let room : times row_index (take (i + 1) members) ≤ row_spare c.reserve.new.self = omega (arith, c.in_ok-reserve.ensures.ok, count.1, once, next_time row_index members i within) in (
      length-set rows row_index c.reserve.new.self ∙ c.loop-member.invariant.0,
      length-set counts row_index (c.index.result.now + 1) ∙ c.loop-member.invariant.1,
      same_set row_texts rows row_index c.index_mut-row.result.now c.reserve.new.self in_rows c.index_mut-row.ensures.value (ap texts c.reserve.ensures.items) ∙ c.loop-member.invariant.2,
      (λ k l. let x = slice_index members k in
          ap (λ (n : ℕ). slice_index (set counts row_index (n + 1)) x) count.0
          ∙ raised counts row_index x in_counts
          ∙ ap (λ (n : ℕ). slice_index counts x + cond (eqb n x) 1 0) is
          ∙ ap (λ (n : ℕ). n + cond (eqb (slice_index members i) x) 1 0) (c.loop-member.invariant.3 k l)
          ∙ sym (next_time x members i within)),
      (λ m l. room_set row_spare rows row_index c.reserve.new.self (λ k. times k (take (i + 1) members)) m in_rows room
          (elim (room_next (map row_spare rows) members i m within (c.loop-member.invariant.4 m l)) [ inl h ↦ inl h | inr e ↦ inr (e ∙ sym is) ])),
    )
