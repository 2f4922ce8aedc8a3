use Rattle.std.proofs.Common.{sym, inl, inr, get_or}
use Rattle.std.proofs.lemmas.List.{get_or_default}
use Rattle.hx_ranked.proofs.Lists.{no_entry}
use Rattle.hx_ranked.proofs.AtIndex.{find-at, others-at, find-others}
use Rattle.hx_ranked.proofs.entries.get.Goals as goal
use Rattle.hx_ranked.proofs.entries.get.Goals.{else-at-entries-via-then-at-entries+else-entries-at, else-at-entries-via-else-at-entries}

pub returns-then-entries-at : goal.returns-then-entries-at
returns-then-entries-at c =
    let at = c.lower_bound-at.ensures in
    let xs = c.args.entries.now in
    let i = c.lower_bound-at.result in
    sym (find-at xs i c.args.rank at.before at.after c.requires (get_or xs i no_entry) c.if-at-entries.true (get_or_default xs i no_entry _ c.if-at-entries.true) c.if-entries-at.true)

-- no entry has the rank
pub returns : goal.returns
returns c =
    let at = c.lower_bound-at.ensures in
    let xs = c.args.entries.now in
    let i = c.lower_bound-at.result in
    let others = others-at xs i c.args.rank at.before at.after c.requires in
    sym (find-others c.args.rank xs (elim c.else-at-entries.branch [
      | else-at-entries-via-then-at-entries+else-entries-at w ↦ others (inr (get_or xs i no_entry, w.if-at-entries.true, get_or_default xs i no_entry _ w.if-at-entries.true, w.if-entries-at.false))
      | else-at-entries-via-else-at-entries w ↦ others (inl w.if-at-entries.false)
    ]))
