use Rattle.std.proofs.Common.{List, ◌++◌, take}
use Rattle.hx_tape_lines.specs.Text.{Entry}
use Rattle.hx_replay_parallel.specs.Ahead.{AreOf, AppliesAll}
use Rattle.hx_replay_parallel.proofs.market_thread.apply_each.Given as goal

abbrev pub invariant-loop-event : goal.invariant-loop-event
invariant-loop-event g l =
    (es : List Entry) → AreOf es l.events → AppliesAll l.fn.run l.run (take l.event-index es) (l.telling ++ l.recent)
