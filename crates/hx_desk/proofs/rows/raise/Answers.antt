use Rattle.std.proofs.Common.{◌≡◌, ◌+◌, ◌<◌, ℕ, List, Bool, cond, eqb, length, slice_index, set, take, ap, sym, ◌∙◌, arith}
use Rattle.std.proofs.lemmas.Grind.{get_or_default_zero}
use lib.ListN.{length-set}
use Rattle.hx_desk.specs.Rows.{times}
use Rattle.hx_desk.proofs.RowLaws.{one_published, next_time, raised}
use Rattle.hx_desk.proofs.rows.raise.Goals as goal

pub prove-unreachable-requires : goal.prove-unreachable-requires
prove-unreachable-requires c =
    let members = c.args.members.now in
    let i = c.loop-member.member-index in
    let row_index = c.get-row_index.result in
    let is : row_index ≡ slice_index members i = c.get-row_index.ensures.value ∙ c.member-item.is ∙ get_or_default_zero members i c.member-item.result (omega arith) in
    let small : row_index < 4096 = omega (arith, c.get-row_index.ensures.range, c.get-row_index.ensures.value) in
    let one = one_published c.loop-member.counts.items c.args.counts.now.items members c.args.rows.now c.index-rows-row_index.result i row_index c.index-count.result.now (omega arith) (omega (arith, small)) (omega (arith, small)) is
    c.index-count.ensures c.index-rows-row_index.is (c.loop-member.invariant.1 row_index small) (c.requires.untold row_index small) in
    omega (arith, one.1, c.if-prove.true, c.len-most.ensures, c.index-rows-row_index.result.ok)

pub loop-member-preserved : goal.loop-member-preserved
loop-member-preserved c =
    let members = c.args.members.now in
    let counts = c.loop-member.counts.items in
    let i = c.loop-member.member-index in
    let row_index = c.get-row_index.result in
    let is : row_index ≡ slice_index members i = c.get-row_index.ensures.value ∙ c.member-item.is ∙ get_or_default_zero members i c.member-item.result (omega arith) in
    let small : row_index < 4096 = omega (arith, c.get-row_index.ensures.range, c.get-row_index.ensures.value) in
    let in_counts : row_index < length counts = omega (arith, small) in
    let one = one_published counts c.args.counts.now.items members c.args.rows.now c.index-rows-row_index.result i row_index c.index-count.result.now (omega arith) in_counts (omega (arith, small)) is
    c.index-count.ensures c.index-rows-row_index.is (c.loop-member.invariant.1 row_index small) (c.requires.untold row_index small) in (
      length-set counts row_index (c.index-count.result.now + 1) ∙ c.loop-member.invariant.0,
      (λ m l.
          let up : slice_index (set counts row_index (c.index-count.result.now + 1)) m ≡ slice_index counts m + cond (eqb row_index m) 1 0 = ap (λ n. slice_index (set counts row_index (n + 1)) m) one.0 ∙ raised counts row_index m in_counts in
          let same : ◌≡◌ {A = ℕ} (cond (eqb row_index m) 1 0) (cond (eqb (slice_index members i) m) 1 0) = ap (λ (n : ℕ). cond (eqb n m) 1 0) is in
          omega (arith, up, same, c.loop-member.invariant.1 m l, next_time m members i (omega arith))),
    )
