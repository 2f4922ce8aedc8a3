use Rattle.std.proofs.Common.{◌≡◌, ◌+◌}
use Rattle.hx_engine.specs.Passes.{new_passes}
use Rattle.hx_engine.proofs.pass.make_passes.Given as goal

abbrev pub invariant-loop-before : goal.invariant-loop-before
invariant-loop-before g l = record {
  blank : l.blank ≡ l.fn.blank;
  register : l.register ≡ l.fn.register;
  parts : l.spare.parts + l.before ≡ l.count;
  amount : l.spare.amount ≡ 0;
  made : l.passes.items ≡ new_passes l.before;
}
