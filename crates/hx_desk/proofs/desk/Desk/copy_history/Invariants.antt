use Rattle.std.proofs.Common.{◌≡◌, take}
use Rattle.hx_desk.proofs.desk.Desk.copy_history.Given as goal

abbrev pub invariant-loop-entry : goal.invariant-loop-entry
invariant-loop-entry l = l.history.items ≡ take l.entry-index l.published_end
