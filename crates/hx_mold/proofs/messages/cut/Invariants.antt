use Rattle.std.proofs.Common.{◌≤◌, ◌+◌, ◌-◌, ◌++◌, List, ℕ, drop, length, map}
use Rattle.hx_units.specs.Fields.{texts}
use Rattle.hx_mold.specs.Fronts.{CutsInto}
use Rattle.hx_mold.proofs.messages.cut.Given as goal

abbrev pub invariant-loop-done : goal.invariant-loop-done
invariant-loop-done l = record {
  within : l.done ≤ length l.messages;
  -- whatever cuts the rest completes the packets
  made : (ps : List (List ℕ)) → CutsInto l.session (l.first + l.done) (drop l.done (texts l.messages)) ps → CutsInto l.session l.first (texts l.messages) (map (λ p. p.items) l.packets.items ++ ps);
}

abbrev pub decreases-loop-done : goal.decreases-loop-done
decreases-loop-done l = length l.messages - l.done
