use Rattle.std.proofs.Common.{◌≡◌, ℕ, ◌+◌, ◌≤◌, ◌++◌, List, Option, Some, drop, false}
use Rattle.hx_units.specs.Fields.{texts}
use Rattle.hx_sessions.specs.Frames.{Sent}
use Rattle.hx_sessions.proofs.outbound.fill.Given as goal

abbrev pub invariant-loop-i : goal.invariant-loop-i
invariant-loop-i g l = record {
  live : l.delivery.over ≡ false;
  next : l.delivery.next ≡ l.fn.delivery.next + l.i;
  left : l.left ≤ l.fn.left;
  sent : (first : ℕ) (replies later : List (List ℕ)) (start : Option (List ℕ)) → Sent first replies (texts l.rows ++ later) l.fn.delivery start (Some l.fn.batch.items) → Sent first replies (drop l.i (texts l.rows) ++ later) l.delivery start (Some l.batch.items);
}
