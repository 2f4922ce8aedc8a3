use Rattle.std.proofs.Common.{◌≡◌, ◌<◌, ◌≤◌, ◌+◌, length, get_or, sym, ◌∙◌, ap, arith}
use Rattle.std.proofs.lemmas.List.{get_or_default}
use Rattle.std.proofs.lemmas.List.Edits.{get_or-remove_below}
use Rattle.hx_ranked.proofs.Dense.{mends-last, mends-large, mends-joined}
use Rattle.hx_ranked.proofs.blocks.join_next.Goals.{then-at-len-via-then-at-len, then-at-len-via-else-at-len+then-len-at-lt2, then-held-via-then-held, then-held-via-else-held+then-more-held}
use Rattle.hx_ranked.proofs.Joined.{flat-joined, are-joined}
use Rattle.hx_ranked.proofs.blocks.join_next.Goals as goal

pub returns-clause-entries : goal.returns-clause-entries
returns-clause-entries c =
    let bs = c.args.blocks.now.items in
    let i = c.args.at in
    let within : i + 1 < length bs = omega arith in
    let b = c.index_mut-block.result.now in
    let k = c.remove-next.result in
    let read : b ≡ get_or bs i b = c.index_mut-block.ensures.value ∙ ap (λ t. get_or t i b) c.remove-next.ensures.items ∙ get_or-remove_below bs (i + 1) b i (omega arith) within in
    rw (c.append.ensures, c.remove-next.ensures.items) (flat-joined bs c.requires i b k within read c.remove-next.ensures.value)

pub returns-clause-blocks : goal.returns-clause-blocks
returns-clause-blocks c =
    let bs = c.args.blocks.now.items in
    let i = c.args.at in
    let within : i + 1 < length bs = omega arith in
    let b = c.index_mut-block.result.now in
    let k = c.remove-next.result in
    let read : b ≡ get_or bs i b = c.index_mut-block.ensures.value ∙ ap (λ t. get_or t i b) c.remove-next.ensures.items ∙ get_or-remove_below bs (i + 1) b i (omega arith) within in
    let held : c.index.result.now ≡ b = c.index.ensures ∙ get_or_default bs i _ b (omega arith) ∙ sym read in
    let more : c.index-2.result.now ≡ k = c.index-2.ensures ∙ get_or_default bs (i + 1) _ k within ∙ sym c.remove-next.ensures.value in
    let small : length b + length k ≤ 256 = omega (arith, ap length held, ap length more) in
    rw (c.append.ensures, c.remove-next.ensures.items) (are-joined bs c.requires i b k within read c.remove-next.ensures.value small)

-- no block is after it
pub returns-then-at-len-clause-dense : goal.returns-then-at-len-clause-dense
returns-then-at-len-clause-dense c =
    mends-last c.args.blocks.now.items c.args.at (elim c.then-at-len.branch [
      | then-at-len-via-then-at-len w ↦ omega arith
      | then-at-len-via-else-at-len+then-len-at-lt2 w ↦ omega arith
    ])

-- the two hold more than half a block's capacity
pub returns-then-held-clause-dense : goal.returns-then-held-clause-dense
returns-then-held-clause-dense c =
    let large : 128 < length c.index.result.now + length c.index-2.result.now = elim c.then-held.branch [ then-held-via-then-held w ↦ omega arith | then-held-via-else-held+then-more-held w ↦ omega arith ] in
    mends-large c.args.blocks.now.items c.args.at c.index.result.now c.index-2.result.now (omega arith) c.index.ensures c.index-2.ensures large

pub returns-clause-dense : goal.returns-clause-dense
returns-clause-dense c =
    let bs = c.args.blocks.now.items in
    let i = c.args.at in
    let within : i + 1 < length bs = omega arith in
    let b = c.index_mut-block.result.now in
    let k = c.remove-next.result in
    let read : b ≡ get_or bs i b = c.index_mut-block.ensures.value ∙ ap (λ t. get_or t i b) c.remove-next.ensures.items ∙ get_or-remove_below bs (i + 1) b i (omega arith) within in
    rw (c.append.ensures, c.remove-next.ensures.items) (mends-joined bs i b k within read c.remove-next.ensures.value c.requires)
