use Rattle.std.proofs.Common.{◌≡◌, ◌<◌, length, sym, ap, ◌∙◌, arith, inl, inr}
use Rattle.std.proofs.lemmas.List.{get_or_default}
use Rattle.hx_ranked.specs.declared.entry.Entry.{Entry}
use Rattle.hx_ranked.proofs.AtIndex.{find-at, without-at, others-at, find-others, without-others}
use Rattle.hx_ranked.proofs.entries.remove.Goals as goal
use Rattle.hx_ranked.proofs.entries.remove.Goals.{else-at-len-via-then-at-len+else-index-rank, else-at-len-via-else-at-len}

-- the entry that was read is the one that was removed
pub returns-then-index-rank-clause-found : goal.returns-then-index-rank-clause-found
returns-then-index-rank-clause-found c =
    let xs = c.args.entries.now.items in
    let i = c.lower_bound-at.result in
    let within : i < length xs = rw (← c.deref.ensures.value, c.deref.ensures.len) (omega arith) in
    let same : c.remove.result ≡ c.index.result.now = c.remove.ensures.value ∙ get_or_default xs i _ _ within ∙ sym c.index.ensures in
    sym (find-at xs i c.args.rank (rw c.deref.ensures.value at c.lower_bound-at.ensures.before) (rw c.deref.ensures.value at c.lower_bound-at.ensures.after) c.requires c.remove.result within c.remove.ensures.value (ap (λ (e : Entry). e.rank) same ∙ c.if-index-rank.true))

pub returns-then-index-rank-clause-items : goal.returns-then-index-rank-clause-items
returns-then-index-rank-clause-items c =
    let xs = c.args.entries.now.items in
    let i = c.lower_bound-at.result in
    let within : i < length xs = rw (← c.deref.ensures.value, c.deref.ensures.len) (omega arith) in
    c.remove.ensures.items ∙ without-at xs i c.args.rank (rw c.deref.ensures.value at c.lower_bound-at.ensures.before) (rw c.deref.ensures.value at c.lower_bound-at.ensures.after) c.requires c.index.result.now within c.index.ensures c.if-index-rank.true

-- no entry has the rank
pub returns-clause-found : goal.returns-clause-found
returns-clause-found c =
    let xs = c.args.entries.now.items in
    let i = c.lower_bound-at.result in
    let len : length xs ≡ c.len.result = rw (← c.deref.ensures.value, c.deref.ensures.len) (omega arith) in
    let others = others-at xs i c.args.rank (rw c.deref.ensures.value at c.lower_bound-at.ensures.before) (rw c.deref.ensures.value at c.lower_bound-at.ensures.after) c.requires in
    sym (find-others c.args.rank xs (elim c.else-at-len.branch [
      | else-at-len-via-then-at-len+else-index-rank w ↦ others (inr (w.index.result.now, omega arith, w.index.ensures, w.if-index-rank.false))
      | else-at-len-via-else-at-len w ↦ others (inl (omega arith))
    ]))

pub returns-clause-items : goal.returns-clause-items
returns-clause-items c =
    let xs = c.args.entries.now.items in
    let i = c.lower_bound-at.result in
    let len : length xs ≡ c.len.result = rw (← c.deref.ensures.value, c.deref.ensures.len) (omega arith) in
    let others = others-at xs i c.args.rank (rw c.deref.ensures.value at c.lower_bound-at.ensures.before) (rw c.deref.ensures.value at c.lower_bound-at.ensures.after) c.requires in
    sym (without-others c.args.rank xs (elim c.else-at-len.branch [
      | else-at-len-via-then-at-len+else-index-rank w ↦ others (inr (w.index.result.now, omega arith, w.index.ensures, w.if-index-rank.false))
      | else-at-len-via-else-at-len w ↦ others (inl (omega arith))
    ]))
