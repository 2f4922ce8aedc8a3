use Rattle.std.proofs.Common.{◌≡◌, ◌+◌, ◌-◌, ◌≤◌, ◌++◌, length, take, drop}
use Rattle.std.specs.Vec.{vec_len, vec_capacity}
use Rattle.hx_engine.specs.Passes.{placed}
use Rattle.hx_engine.proofs.submitting.move_first.Given as goal

abbrev pub invariant-loop-i : goal.invariant-loop-i
invariant-loop-i l = record {
  added : l.sent.items ≡ l.fn.sent.items ++ placed (l.last - l.count) (take l.i l.fn.events.items);
  room : vec_len l.sent + (l.count - l.i) ≤ vec_capacity l.sent;
  rest : drop l.i l.events.items ≡ drop l.i l.fn.events.items;
  as_many : length l.events.items ≡ length l.fn.events.items;
}
