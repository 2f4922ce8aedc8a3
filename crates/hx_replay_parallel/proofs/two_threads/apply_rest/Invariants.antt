use Rattle.std.proofs.Common.{◌≡◌, ◌+◌, ◌^◌, ◌<◌, [], List, ℕ, Option, length}
use Rattle.rtrb.specs.Ring.{known_items}
use Rattle.hx_tape_lines.specs.Text.{Entry}
use Rattle.hx_replay.specs.Run.{Progress, IsFew}
use Rattle.hx_replay_parallel.specs.Ahead.{AreOf, IsAtTurn}
use Rattle.hx_replay_parallel.specs.Turns.{events_of}
use Rattle.hx_replay_parallel.proofs.two_threads.apply_rest.Given as goal

abbrev pub invariant-loop : goal.invariant-loop
invariant-loop g l =
    (l.counter + length (known_items l.unapplied) ≡ l.count)
    × (l.run.events + length (events_of (known_items l.unapplied)) < 2 ^ 48)
    × IsFew l.run
    × ((entries : List Entry) × AreOf entries (events_of (known_items l.unapplied)))
    × ((old : Progress) (all text : List ℕ) (w : Option (List ℕ))
    → IsAtTurn old l.fn.run all w (g.W.Write.contents l.fn.writer) [] (events_of (known_items l.fn.unapplied)) text
    → IsAtTurn old l.run all w (g.W.Write.contents l.writer) [] (events_of (known_items l.unapplied)) text)
