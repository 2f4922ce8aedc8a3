use Rattle.std.proofs.Common.{◌≡◌, ◌<◌, [], length, get_or, sym, subst, ◌∙◌, ap, arith}
use Rattle.std.proofs.lemmas.List.{get_or_default, get_or-set_same, nil_from_length}
use Rattle.std.specs.List.{remove}
use Rattle.hx_ranked.specs.Ranked.{without, AreBlocks, flat}
use Rattle.hx_ranked.specs.Ranked.{IsDense}
use Rattle.std.proofs.Common.{◌+◌, drop}
use Rattle.hx_ranked.proofs.Dense.{rest-set, rest-gone}
use Rattle.hx_ranked.proofs.Changed.{rising-block, find-block, without-block, are-without, gone-block, are-gone, remove-set}
use Rattle.hx_ranked.proofs.blocks.remove_and_prune.Goals as goal

pub remove_entry-entry-requires-clause-sorted : goal.remove_entry-entry-requires-clause-sorted
remove_entry-entry-requires-clause-sorted c =
    let bs = c.args.blocks.now.items in
    let i = c.args.at in
    let within = c.requires.inside in
    rising-block bs c.requires.blocks i (get_or bs i []) within (get_or_default bs i [] _ within)

-- nothing is left of the block
pub returns-then-len-eq0-clause-found : goal.returns-then-len-eq0-clause-found
returns-then-len-eq0-clause-found c =
    let bs = c.args.blocks.now.items in
    let i = c.args.at in
    let within = c.requires.inside in
    c.remove_entry-entry.ensures.found ∙ find-block bs c.requires.blocks i (get_or bs i []) within (get_or_default bs i [] _ within) c.args.rank c.requires.before c.requires.after

pub returns-then-len-eq0-clause-entries : goal.returns-then-len-eq0-clause-entries
returns-then-len-eq0-clause-entries c =
    let bs = c.args.blocks.now.items in
    let i = c.args.at in
    let within = c.requires.inside in
    let w = without c.args.rank (get_or bs i []) in
    let is : c.index.result.now ≡ w = c.index.ensures ∙ rw c.remove_entry-entry.ensures.blocks (get_or-set_same bs i w _ within) in
    let none : w ≡ [] = nil_from_length w (rw (← is) (omega arith)) in
    let gone = c.remove-empty.ensures.items ∙ ap (λ t. remove t i) c.remove_entry-entry.ensures.blocks ∙ remove-set bs i w in
    ap flat gone ∙ gone-block bs c.requires.blocks i (get_or bs i []) within (get_or_default bs i [] _ within) c.args.rank c.requires.before c.requires.after none

pub returns-then-len-eq0-clause-blocks : goal.returns-then-len-eq0-clause-blocks
returns-then-len-eq0-clause-blocks c =
    let bs = c.args.blocks.now.items in
    let i = c.args.at in
    let within = c.requires.inside in
    let w = without c.args.rank (get_or bs i []) in
    let is : c.index.result.now ≡ w = c.index.ensures ∙ rw c.remove_entry-entry.ensures.blocks (get_or-set_same bs i w _ within) in
    let none : w ≡ [] = nil_from_length w (rw (← is) (omega arith)) in
    let gone = c.remove-empty.ensures.items ∙ ap (λ t. remove t i) c.remove_entry-entry.ensures.blocks ∙ remove-set bs i w in
    subst AreBlocks (sym gone) (are-gone bs c.requires.blocks i (get_or bs i []) within (get_or_default bs i [] _ within) c.args.rank c.requires.before c.requires.after none)

-- something is left of it
pub returns-else-len-eq0-clause-found : goal.returns-else-len-eq0-clause-found
returns-else-len-eq0-clause-found c =
    let bs = c.args.blocks.now.items in
    let i = c.args.at in
    let within = c.requires.inside in
    c.remove_entry-entry.ensures.found ∙ find-block bs c.requires.blocks i (get_or bs i []) within (get_or_default bs i [] _ within) c.args.rank c.requires.before c.requires.after

pub returns-else-len-eq0-clause-entries : goal.returns-else-len-eq0-clause-entries
returns-else-len-eq0-clause-entries c =
    let bs = c.args.blocks.now.items in
    let i = c.args.at in
    let within = c.requires.inside in
    ap flat c.remove_entry-entry.ensures.blocks ∙ without-block bs c.requires.blocks i (get_or bs i []) within (get_or_default bs i [] _ within) c.args.rank c.requires.before c.requires.after

pub returns-else-len-eq0-clause-blocks : goal.returns-else-len-eq0-clause-blocks
returns-else-len-eq0-clause-blocks c =
    let bs = c.args.blocks.now.items in
    let i = c.args.at in
    let within = c.requires.inside in
    let w = without c.args.rank (get_or bs i []) in
    let is : c.index.result.now ≡ w = c.index.ensures ∙ rw c.remove_entry-entry.ensures.blocks (get_or-set_same bs i w _ within) in
    let some : 0 < length w = rw (← is) (omega arith) in
    subst AreBlocks (sym c.remove_entry-entry.ensures.blocks) (are-without bs c.requires.blocks i (get_or bs i []) within (get_or_default bs i [] _ within) c.args.rank c.requires.before c.requires.after some)

-- what stands after the block is as it was
pub returns-then-len-eq0-clause-rest : goal.returns-then-len-eq0-clause-rest
returns-then-len-eq0-clause-rest c h =
    let bs = c.args.blocks.now.items in
    let i = c.args.at in
    let w = without c.args.rank (get_or bs i []) in
    let gone = c.remove-empty.ensures.items ∙ ap (λ t. remove t i) c.remove_entry-entry.ensures.blocks ∙ remove-set bs i w in
    subst (λ t. IsDense (drop (i + 1) t)) (sym gone) (rest-gone bs i c.requires.inside h)

pub returns-else-len-eq0-clause-rest : goal.returns-else-len-eq0-clause-rest
returns-else-len-eq0-clause-rest c h =
    let bs = c.args.blocks.now.items in
    let i = c.args.at in
    subst (λ t. IsDense (drop (i + 1) t)) (sym c.remove_entry-entry.ensures.blocks) (rest-set bs i (without c.args.rank (get_or bs i [])) h)
