use Rattle.std.specs.List.Sorted.{IsStrictlySortedBy}
use Rattle.std.proofs.Common.{subst}
use Rattle.hx_day.specs.Expiries.{IsSomeDue}
use Rattle.hx_day.proofs.Held.{entry_cmp}
use Rattle.hx_day.proofs.Due.{AreLater, walk_goes_on, some_due, all_later, none_later, are_indices, if_err}
use Rattle.hx_day.proofs.expiries.Expiries.indices_until.Goals as goal
use Rattle.hx_day.proofs.expiries.Expiries.indices_until.Goals.{in-None, in-Some+then-entry-time}

pub loop-entry-preserved : goal.loop-entry-preserved
loop-entry-preserved c =
    rw c.in_ok-push.ensures.items
    (walk_goes_on c.args.self.now c.loop-entry.entry-iterator c.next.new.self c.args.time c.loop-entry.indices.items c.in-Some.entry.now c.loop-entry.invariant
    c.in-Some.ensures.steps c.if-entry-time.false)

pub returns-in_err-push-clause-memory : goal.returns-in_err-push-clause-memory
returns-in_err-push-clause-memory c =
    if_err c.from_residual.result (IsSomeDue c.args.self.now c.args.time)
    (some_due c.args.self.now c.loop-entry.entry-iterator c.next.new.self c.args.time c.loop-entry.indices.items c.in-Some.entry.now c.loop-entry.invariant
    c.in-Some.ensures.steps c.if-entry-time.false)

pub returns-clause-ok : goal.returns-clause-ok
returns-clause-ok c =
    let order = subst (IsStrictlySortedBy entry_cmp) c.self.view_is c.iter-entry-items.ensures.ordered in
    let later : AreLater c.args.time c.loop-entry.entry-iterator = elim c.match-next.branch [
      | in-None w ↦ none_later c.args.time c.loop-entry.entry-iterator w.in-None.ensures.steps.0
      | in-Some+then-entry-time w ↦ all_later c.args.self.now c.loop-entry.entry-iterator c.next.new.self c.args.time c.loop-entry.indices.items w.in-Some.entry.now c.loop-entry.invariant
          order w.in-Some.ensures.steps w.if-entry-time.true
    ] in
    are_indices c.args.self.now c.loop-entry.entry-iterator c.args.time c.loop-entry.indices.items c.sort_unstable.new.self.items c.dedup.new.self.items c.loop-entry.invariant later
    c.sort_unstable.ensures.permutation c.sort_unstable.ensures.sorted c.dedup.ensures.filtered
