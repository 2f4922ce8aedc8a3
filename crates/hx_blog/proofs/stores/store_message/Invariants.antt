use Rattle.std.proofs.Common.{◌≡◌, [], take}
use Rattle.hx_blog.specs.Views.{writing}
use Rattle.hx_blog.proofs.stores.store_message.Given as goal

-- the first `k` words of the message are stored
abbrev pub invariant-loop-k : goal.invariant-loop-k
invariant-loop-k g l =
    let old = l.initial.seat in
    (l.seat.table_id ≡ old.table_id) × (l.seat.me ≡ (writing old.me.0.room old.me.0.known old.me.0.staged (take l.k l.words), []))
