use Rattle.std.proofs.Common.{◌≡◌, ◌≤◌, ◌+◌, ◌++◌, filter_map, length, map, option_map, vec_capacity, vec_len}
use Rattle.hx_serve.proofs.slot_workers.take_all.Given as goal

-- the passes of the slots so far, and the slots that are left
abbrev pub invariant-loop-slot : goal.invariant-loop-slot
invariant-loop-slot g l = record {
  all : l.yielded ++ l.slot-iterator.rest.items ≡ l.fn.slots.items;
  left : l.slot-iterator.rest.len ≡ length l.slot-iterator.rest.items;
  total : length l.yielded + l.slot-iterator.rest.len ≡ vec_len l.fn.slots;
  room : vec_capacity l.passes ≡ vec_capacity l.fn.passes;
  few : vec_len l.passes ≤ length l.yielded;
  taken : map (λ p. p.number) l.passes.items ≡ filter_map (λ s. option_map (λ p. p.pass.number) s.worker) l.yielded;
}
