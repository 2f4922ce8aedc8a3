use Rattle.std.proofs.Common.{sym, inl, inr, get_or}
use Rattle.std.proofs.lemmas.List.{get_or_default}
use Rattle.hx_ranked.proofs.AtIndex.{find-at, renewed-at, others-at, renewed-others, find-others}
use Rattle.hx_ranked.proofs.Lists.{no_entry}
use Rattle.hx_ranked.proofs.entries.renew.Goals as goal
use Rattle.hx_ranked.proofs.entries.renew.Goals.{else-at-entries-via-then-at-entries+else-entries-at, else-at-entries-via-else-at-entries}

-- the entry of the rank was renewed
pub returns-then-entries-at-clause-found : goal.returns-then-entries-at-clause-found
returns-then-entries-at-clause-found c =
    let at = c.lower_bound-at.ensures in
    let xs = c.args.entries.now in
    let i = c.lower_bound-at.result in
    sym (find-at xs i c.args.rank at.before at.after c.requires (get_or xs i no_entry) c.if-at-entries.true (get_or_default xs i no_entry _ c.if-at-entries.true) c.if-entries-at.true)

pub returns-then-entries-at-clause-items : goal.returns-then-entries-at-clause-items
returns-then-entries-at-clause-items c =
    let at = c.lower_bound-at.ensures in
    let xs = c.args.entries.now in
    let i = c.lower_bound-at.result in
    renewed-at xs i c.args.rank at.before at.after c.requires (get_or xs i no_entry) c.if-at-entries.true (get_or_default xs i no_entry _ c.if-at-entries.true) c.if-entries-at.true c.args.least c.args.shares

-- no entry has the rank
pub returns-clause-found : goal.returns-clause-found
returns-clause-found c =
    let at = c.lower_bound-at.ensures in
    let xs = c.args.entries.now in
    let i = c.lower_bound-at.result in
    let others = others-at xs i c.args.rank at.before at.after c.requires in
    sym (find-others c.args.rank xs (elim c.else-at-entries.branch [
      | else-at-entries-via-then-at-entries+else-entries-at w ↦ others (inr (get_or xs i no_entry, w.if-at-entries.true, get_or_default xs i no_entry _ w.if-at-entries.true, w.if-entries-at.false))
      | else-at-entries-via-else-at-entries w ↦ others (inl w.if-at-entries.false)
    ]))

pub returns-clause-items : goal.returns-clause-items
returns-clause-items c =
    let at = c.lower_bound-at.ensures in
    let xs = c.args.entries.now in
    let i = c.lower_bound-at.result in
    let others = others-at xs i c.args.rank at.before at.after c.requires in
    sym (renewed-others c.args.rank c.args.least c.args.shares xs (elim c.else-at-entries.branch [
      | else-at-entries-via-then-at-entries+else-entries-at w ↦ others (inr (get_or xs i no_entry, w.if-at-entries.true, get_or_default xs i no_entry _ w.if-at-entries.true, w.if-entries-at.false))
      | else-at-entries-via-else-at-entries w ↦ others (inl w.if-at-entries.false)
    ]))
