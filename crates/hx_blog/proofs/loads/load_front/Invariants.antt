use Rattle.std.proofs.Common.{◌≡◌, ℕ, ◌<◌, [], get_or, length}
use Rattle.hx_blog.specs.Packed.{packed}
use Rattle.hx_blog.specs.Feed.{feed}
use Rattle.hx_blog.proofs.loads.load_front.Given as goal

-- the first `k` words of the message are loaded
abbrev pub invariant-loop-k : goal.invariant-loop-k
invariant-loop-k g l =
    (l.seat.table_id ≡ l.initial.seat.table_id)
    × (l.seat.me ≡ l.initial.seat.me)
    × ((j : ℕ) → j < l.k → get_or l.words j 0 ≡ get_or (packed (get_or (feed l.initial.seat.me.0.known) l.index [])) j 0)
    × (length l.words ≡ 6)
