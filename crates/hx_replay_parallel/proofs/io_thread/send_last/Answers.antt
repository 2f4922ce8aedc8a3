use Rattle.std.proofs.Common.{List, ap, ◌∙◌}
use Rattle.rtrb.specs.Ring.{sent}
use Rattle.hx_replay_parallel.specs.declared.batch.Batch.{Batch}
use Rattle.hx_replay_parallel.specs.Turns.{events_of}
use Rattle.hx_replay_parallel.proofs.Sending.{events_same, may_follow_last, has_room}
use Rattle.hx_replay_parallel.proofs.io_thread.send_last.Goals as goal

pub push_reserved-requires : goal.push_reserved-requires
push_reserved-requires c = (has_room _ _ c.is_full.ensures.value c.if-not-is_full.true, rw c.is_full.ensures.looked.1 (may_follow_last _ c.new.result c.new.ensures.ahead c.requires))

pub returns-then-not-is_full-clause-events : goal.returns-then-not-is_full-clause-events
returns-then-not-is_full-clause-events c =
    events_same (sent c.is_full.new.self) (sent c.push_reserved.new.self) c.new.result c.push_reserved.ensures.sent.0 c.new.ensures.ahead ∙ ap (λ (l : List Batch). events_of l) c.is_full.ensures.looked.1
