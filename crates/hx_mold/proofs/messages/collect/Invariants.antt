use Rattle.std.proofs.Common.{◌≡◌, ◌+◌, ◌-◌}
use Rattle.hx_mold.specs.Fronts.{wanted}
use Rattle.hx_mold.specs.Filling.{Holds}
use Rattle.hx_mold.proofs.messages.collect.Given as goal

abbrev pub invariant-loop-count : goal.invariant-loop-count
invariant-loop-count g l = record {
  holds : Holds l.count l.body.items (wanted l.first l.most (g.M.Messages.messages l.fn.messages));
  next : l.next ≡ l.first + l.count;
  same : l.messages ≡ l.fn.messages;
}

abbrev pub decreases-loop-count : goal.decreases-loop-count
decreases-loop-count g l = l.most - l.count
