use Rattle.std.proofs.Common.{ℕ, ◌-◌, length}
use Rattle.hx_etcd.specs.Connections.{Comes}
use Rattle.hx_etcd.specs.Responses.{most_head}
use Rattle.hx_etcd.proofs.inlet.Inlet.next_head.Given as goal

abbrev pub invariant-heads : goal.invariant-heads
invariant-heads g l =
    Comes (g.R.Read.remaining l.initial.self.reader) (g.R.Read.remaining l.self.reader)
    l.initial.self.unread.items l.self.unread.items

abbrev pub decreases-heads : goal.decreases-heads
decreases-heads g l = most_head - length l.self.unread.items
