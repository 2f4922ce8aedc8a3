use Rattle.rtrb.specs.Ring.{received, sent, SameConsumer, SameProducer}
use Rattle.hx_units.specs.Writing.{Writes}
use Rattle.hx_replay_parallel.specs.Ahead.{IsAhead}
use Rattle.hx_replay_parallel.specs.Turns.{events_of, output_of}
use Rattle.hx_replay_parallel.proofs.io_thread.write_each.Given as goal

abbrev pub invariant-loop : goal.invariant-loop
invariant-loop g l =
    record {
      coming : SameConsumer l.fn.coming l.coming;
      going : SameProducer l.fn.going l.going;
      wrote : Writes (g.W.Write.contents l.fn.writer) (g.W.Write.contents l.writer) (output_of (received l.coming)) l.spelled;
      ahead : IsAhead l.fn.pending (events_of (sent l.going)) l.pending;
    }
