use Rattle.std.proofs.Common.{◌≡◌}
use Rattle.hx_serve.proofs.parts.hire.Given as goal

abbrev pub invariant-loop-connection : goal.invariant-loop-connection
invariant-loop-connection g l =
    (goal.iterator-loop-connection g).can_next l.connection-iterator
    × (goal.iterator-loop-connection g).is_finite l.connection-iterator
    × (l.reader.log ≡ l.fn.reader.log)
