use Rattle.std.proofs.Common.{◌≡◌, ◌+◌, ◌++◌, List, length}
use Rattle.std.specs.Io.KnownBytes.{Appends}
use Rattle.rtrb.specs.Ring.{known_items}
use Rattle.hx_replay_parallel.specs.declared.batch.Batch.{Batch}
use Rattle.hx_replay_parallel.specs.Turns.{output_of}
use Rattle.hx_replay_parallel.proofs.two_threads.write_rest.Given as goal

abbrev pub invariant-loop : goal.invariant-loop
invariant-loop g l =
    (l.counter + length (known_items l.unwritten) ≡ l.count)
    × ((written : List Batch) × (written ++ known_items l.unwritten ≡ known_items l.fn.unwritten)
    × Appends (g.W.Write.contents l.fn.writer) (g.W.Write.contents l.writer) (output_of written))
