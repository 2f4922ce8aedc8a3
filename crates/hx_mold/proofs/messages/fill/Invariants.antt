use Rattle.std.proofs.Common.{◌≡◌}
use Rattle.hx_units.specs.Fields.{texts}
use Rattle.hx_mold.specs.Filling.{Holds}
use Rattle.hx_mold.proofs.messages.fill.Given as goal

abbrev pub invariant-loop-message : goal.invariant-loop-message
invariant-loop-message l = record {
  holds : Holds l.message-index l.body.items (texts l.messages);
  count : l.count ≡ l.message-index;
}
