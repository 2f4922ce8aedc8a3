use Rattle.rtrb.specs.Ring.{received, sent, SameConsumer, SameProducer}
use Rattle.hx_replay_parallel.proofs.TurnsOfPlayer.{CameAndApplied}
use Rattle.hx_replay_parallel.proofs.market_thread.apply_coming.Given as goal

abbrev pub invariant-loop : goal.invariant-loop
invariant-loop g l =
    SameConsumer l.fn.coming l.coming
    × SameProducer l.fn.going l.going
    × CameAndApplied l.fn.run l.run (received l.coming) (sent l.going)
