use Rattle.std.proofs.Common.{◌≡◌}
use Rattle.hx_serve.proofs.slot_workers.SlotWorker.serve_all.Given as goal

abbrev pub invariant-loop : goal.invariant-loop
invariant-loop g l = l.worker.pass.number ≡ l.fn.self.pass.number
