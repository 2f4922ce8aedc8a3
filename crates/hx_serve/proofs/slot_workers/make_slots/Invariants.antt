use Rattle.std.proofs.Common.{◌≡◌, filter_map, length, map, option_map, vec_capacity, vec_len}
use Rattle.hx_serve.proofs.slot_workers.make_slots.Given as goal

-- each pass so far has its session slot
abbrev pub invariant-loop-pass : goal.invariant-loop-pass
invariant-loop-pass g l = record {
  next : (goal.iterator-loop-pass g).can_next l.pass-iterator;
  finite : (goal.iterator-loop-pass g).is_finite l.pass-iterator;
  log : l.reader.log ≡ l.fn.reader.log;
  room : vec_capacity l.slots ≡ vec_capacity l.fn.slots;
  count : vec_len l.slots ≡ length l.yielded;
  each : filter_map (λ s. option_map (λ p. p.pass.number) s.worker) l.slots.items ≡ map (λ p. p.number) l.yielded;
}
