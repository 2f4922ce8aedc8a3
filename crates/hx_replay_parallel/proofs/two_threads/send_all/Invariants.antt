use Rattle.std.proofs.Common.{◌≡◌, []}
use Rattle.rtrb.specs.Ring.{sent, SameProducer}
use Rattle.hx_replay_parallel.specs.Turns.{output_of}
use Rattle.hx_replay_parallel.proofs.two_threads.send_all.Given as goal

abbrev pub invariant-loop : goal.invariant-loop
invariant-loop l = SameProducer l.fn.to_write l.to_write × (output_of (sent l.to_write) ≡ [])
