use Rattle.std.proofs.Common.{◌≡◌}
use Rattle.rtrb.specs.Ring.{received, sent, SameConsumer, SameProducer}
use Rattle.hx_replay_parallel.proofs.batch.wait_next.Given as goal

abbrev pub invariant-loop : goal.invariant-loop
invariant-loop g l =
    SameConsumer l.fn.coming l.coming × (received l.coming ≡ received l.fn.coming)
    × SameProducer l.fn.going l.going × (sent l.going ≡ sent l.fn.going)
