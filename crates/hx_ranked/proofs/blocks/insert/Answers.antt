use Rattle.std.proofs.Common.{◌≡◌, ◌<◌, ◌+◌, [], length, get_or, sym, subst, ◌∙◌, ap, arith, drop, take}
use Rattle.std.proofs.lemmas.List.{get_or_default}
use Rattle.hx_ranked.specs.Ranked.{AreBlocks, flat, IsFree, Every, inserted}
use Rattle.hx_ranked.specs.Ranked.{IsDense}
use Rattle.hx_ranked.proofs.Dense.{dense-halved}
use Rattle.hx_ranked.proofs.Flat.{filled-here}
use Rattle.hx_ranked.proofs.Halved.{flat-halved, are-halved, before-front, after-front, before-back, after-back, front-short, back-short}
use Rattle.hx_ranked.proofs.blocks.insert.Goals as goal

-- the block is full and was split, and the rank belongs to the first half

pub put-requires-then-entry-halve-clause-blocks : goal.put-requires-then-entry-halve-clause-blocks
put-requires-then-entry-halve-clause-blocks c =
    let bs = c.args.blocks.now.items in
    let i = c.locate-at.result in
    let within = rw c.deref.ensures.value at c.locate-at.ensures.inside in
    let b = get_or bs i [] in
    let read = get_or_default bs i [] b within in
    let same : c.index.result.now ≡ b = c.index.ensures ∙ get_or_default bs i _ [] within in
    let full : length b ≡ 256 = omega (arith, (filled-here bs c.requires.blocks i b within read).1, ap length same) in
    subst AreBlocks (sym c.halve.ensures.blocks) (are-halved bs c.requires.blocks i b within read full)

pub put-requires-then-entry-halve-clause-before : goal.put-requires-then-entry-halve-clause-before
put-requires-then-entry-halve-clause-before c =
    let bs = c.args.blocks.now.items in
    let i = c.locate-at.result in
    let within = rw c.deref.ensures.value at c.locate-at.ensures.inside in
    let b = get_or bs i [] in
    let read = get_or_default bs i [] b within in
    let same : c.index.result.now ≡ b = c.index.ensures ∙ get_or_default bs i _ [] within in
    let full : length b ≡ 256 = omega (arith, (filled-here bs c.requires.blocks i b within read).1, ap length same) in
    subst (λ t. Every (λ e. e.rank < c.args.entry.rank) (flat (take i t))) (sym c.halve.ensures.blocks) (before-front bs c.requires.blocks i b within read full c.args.entry.rank (rw c.deref.ensures.value at c.locate-at.ensures.before))

pub put-requires-then-entry-halve-clause-after : goal.put-requires-then-entry-halve-clause-after
put-requires-then-entry-halve-clause-after c =
    let bs = c.args.blocks.now.items in
    let i = c.locate-at.result in
    let within = rw c.deref.ensures.value at c.locate-at.ensures.inside in
    let b = get_or bs i [] in
    let read = get_or_default bs i [] b within in
    let same : c.index.result.now ≡ b = c.index.ensures ∙ get_or_default bs i _ [] within in
    let full : length b ≡ 256 = omega (arith, (filled-here bs c.requires.blocks i b within read).1, ap length same) in
    subst (λ t. Every (λ e. c.args.entry.rank < e.rank) (flat (drop (i + 1) t))) (sym c.halve.ensures.blocks) (after-front bs c.requires.blocks i b within read full c.args.entry.rank (rw (← c.halve.ensures.first) c.if-entry-halve.true))

pub put-requires-then-entry-halve-clause-room : goal.put-requires-then-entry-halve-clause-room
put-requires-then-entry-halve-clause-room c =
    let bs = c.args.blocks.now.items in
    let i = c.locate-at.result in
    let within = rw c.deref.ensures.value at c.locate-at.ensures.inside in
    let b = get_or bs i [] in
    let read = get_or_default bs i [] b within in
    let same : c.index.result.now ≡ b = c.index.ensures ∙ get_or_default bs i _ [] within in
    let full : length b ≡ 256 = omega (arith, (filled-here bs c.requires.blocks i b within read).1, ap length same) in
    subst (λ t. length (get_or t i []) < 256) (sym c.halve.ensures.blocks) (front-short bs c.requires.blocks i b within read full)

pub put-requires-then-entry-halve-clause-free : goal.put-requires-then-entry-halve-clause-free
put-requires-then-entry-halve-clause-free c =
    let bs = c.args.blocks.now.items in
    let i = c.locate-at.result in
    let within = rw c.deref.ensures.value at c.locate-at.ensures.inside in
    let b = get_or bs i [] in
    let read = get_or_default bs i [] b within in
    let same : c.index.result.now ≡ b = c.index.ensures ∙ get_or_default bs i _ [] within in
    let full : length b ≡ 256 = omega (arith, (filled-here bs c.requires.blocks i b within read).1, ap length same) in
    subst (IsFree c.args.entry.rank) (sym (ap flat c.halve.ensures.blocks ∙ flat-halved bs c.requires.blocks i b within read full)) c.requires.free

pub returns-then-entry-halve-clause-entries : goal.returns-then-entry-halve-clause-entries
returns-then-entry-halve-clause-entries c =
    let bs = c.args.blocks.now.items in
    let i = c.locate-at.result in
    let within = rw c.deref.ensures.value at c.locate-at.ensures.inside in
    let b = get_or bs i [] in
    let read = get_or_default bs i [] b within in
    let same : c.index.result.now ≡ b = c.index.ensures ∙ get_or_default bs i _ [] within in
    let full : length b ≡ 256 = omega (arith, (filled-here bs c.requires.blocks i b within read).1, ap length same) in
    c.put-then-entry-halve.ensures.entries ∙ ap (inserted c.args.entry) (ap flat c.halve.ensures.blocks ∙ flat-halved bs c.requires.blocks i b within read full)

-- the block is full and was split, and the rank belongs to the second half

pub put-requires-else-entry-halve-clause-blocks : goal.put-requires-else-entry-halve-clause-blocks
put-requires-else-entry-halve-clause-blocks c =
    let bs = c.args.blocks.now.items in
    let i = c.locate-at.result in
    let within = rw c.deref.ensures.value at c.locate-at.ensures.inside in
    let b = get_or bs i [] in
    let read = get_or_default bs i [] b within in
    let same : c.index.result.now ≡ b = c.index.ensures ∙ get_or_default bs i _ [] within in
    let full : length b ≡ 256 = omega (arith, (filled-here bs c.requires.blocks i b within read).1, ap length same) in
    subst AreBlocks (sym c.halve.ensures.blocks) (are-halved bs c.requires.blocks i b within read full)

pub put-requires-else-entry-halve-clause-before : goal.put-requires-else-entry-halve-clause-before
put-requires-else-entry-halve-clause-before c =
    let bs = c.args.blocks.now.items in
    let i = c.locate-at.result in
    let within = rw c.deref.ensures.value at c.locate-at.ensures.inside in
    let b = get_or bs i [] in
    let read = get_or_default bs i [] b within in
    let same : c.index.result.now ≡ b = c.index.ensures ∙ get_or_default bs i _ [] within in
    let full : length b ≡ 256 = omega (arith, (filled-here bs c.requires.blocks i b within read).1, ap length same) in
    subst (λ t. Every (λ e. e.rank < c.args.entry.rank) (flat (take (i + 1) t))) (sym c.halve.ensures.blocks) (before-back bs c.requires.blocks i b within read full c.args.entry.rank (rw (← c.halve.ensures.first) c.if-entry-halve.false))

pub put-requires-else-entry-halve-clause-after : goal.put-requires-else-entry-halve-clause-after
put-requires-else-entry-halve-clause-after c =
    let bs = c.args.blocks.now.items in
    let i = c.locate-at.result in
    let within = rw c.deref.ensures.value at c.locate-at.ensures.inside in
    let b = get_or bs i [] in
    let read = get_or_default bs i [] b within in
    let same : c.index.result.now ≡ b = c.index.ensures ∙ get_or_default bs i _ [] within in
    let full : length b ≡ 256 = omega (arith, (filled-here bs c.requires.blocks i b within read).1, ap length same) in
    subst (λ t. Every (λ e. c.args.entry.rank < e.rank) (flat (drop (i + 1 + 1) t))) (sym c.halve.ensures.blocks) (after-back bs c.requires.blocks i b within read full c.args.entry.rank (rw c.deref.ensures.value at c.locate-at.ensures.after))

pub put-requires-else-entry-halve-clause-room : goal.put-requires-else-entry-halve-clause-room
put-requires-else-entry-halve-clause-room c =
    let bs = c.args.blocks.now.items in
    let i = c.locate-at.result in
    let within = rw c.deref.ensures.value at c.locate-at.ensures.inside in
    let b = get_or bs i [] in
    let read = get_or_default bs i [] b within in
    let same : c.index.result.now ≡ b = c.index.ensures ∙ get_or_default bs i _ [] within in
    let full : length b ≡ 256 = omega (arith, (filled-here bs c.requires.blocks i b within read).1, ap length same) in
    subst (λ t. length (get_or t (i + 1) []) < 256) (sym c.halve.ensures.blocks) (back-short bs c.requires.blocks i b within read full)

pub put-requires-else-entry-halve-clause-free : goal.put-requires-else-entry-halve-clause-free
put-requires-else-entry-halve-clause-free c =
    let bs = c.args.blocks.now.items in
    let i = c.locate-at.result in
    let within = rw c.deref.ensures.value at c.locate-at.ensures.inside in
    let b = get_or bs i [] in
    let read = get_or_default bs i [] b within in
    let same : c.index.result.now ≡ b = c.index.ensures ∙ get_or_default bs i _ [] within in
    let full : length b ≡ 256 = omega (arith, (filled-here bs c.requires.blocks i b within read).1, ap length same) in
    subst (IsFree c.args.entry.rank) (sym (ap flat c.halve.ensures.blocks ∙ flat-halved bs c.requires.blocks i b within read full)) c.requires.free

pub returns-else-entry-halve-clause-entries : goal.returns-else-entry-halve-clause-entries
returns-else-entry-halve-clause-entries c =
    let bs = c.args.blocks.now.items in
    let i = c.locate-at.result in
    let within = rw c.deref.ensures.value at c.locate-at.ensures.inside in
    let b = get_or bs i [] in
    let read = get_or_default bs i [] b within in
    let same : c.index.result.now ≡ b = c.index.ensures ∙ get_or_default bs i _ [] within in
    let full : length b ≡ 256 = omega (arith, (filled-here bs c.requires.blocks i b within read).1, ap length same) in
    c.put-else-entry-halve.ensures.entries ∙ ap (inserted c.args.entry) (ap flat c.halve.ensures.blocks ∙ flat-halved bs c.requires.blocks i b within read full)

pub returns-then-entry-halve-clause-dense : goal.returns-then-entry-halve-clause-dense
returns-then-entry-halve-clause-dense c h =
    let bs = c.args.blocks.now.items in
    let i = c.locate-at.result in
    let within = rw c.deref.ensures.value at c.locate-at.ensures.inside in
    let b = get_or bs i [] in
    let read = get_or_default bs i [] b within in
    let same : c.index.result.now ≡ b = c.index.ensures ∙ get_or_default bs i _ [] within in
    let full : length b ≡ 256 = omega (arith, (filled-here bs c.requires.blocks i b within read).1, ap length same) in
    c.put-then-entry-halve.ensures.dense (subst IsDense (sym c.halve.ensures.blocks) (dense-halved bs c.requires.blocks i b within read full h))

pub returns-else-entry-halve-clause-dense : goal.returns-else-entry-halve-clause-dense
returns-else-entry-halve-clause-dense c h =
    let bs = c.args.blocks.now.items in
    let i = c.locate-at.result in
    let within = rw c.deref.ensures.value at c.locate-at.ensures.inside in
    let b = get_or bs i [] in
    let read = get_or_default bs i [] b within in
    let same : c.index.result.now ≡ b = c.index.ensures ∙ get_or_default bs i _ [] within in
    let full : length b ≡ 256 = omega (arith, (filled-here bs c.requires.blocks i b within read).1, ap length same) in
    c.put-else-entry-halve.ensures.dense (subst IsDense (sym c.halve.ensures.blocks) (dense-halved bs c.requires.blocks i b within read full h))
