use Rattle.std.proofs.Common.{ℕ, List}
use Rattle.http1.specs.Decoder.{decoder_for}
use Rattle.hx_etcd.specs.Responses.{limits}
use Rattle.hx_etcd.proofs.Streams.{Goes}
use Rattle.hx_etcd.proofs.inlet.Inlet.next_body.Given as goal

abbrev pub invariant-pieces : goal.invariant-pieces
invariant-pieces g l =
    Goes (g.R.Read.remaining l.initial.self.reader) (g.R.Read.remaining l.self.reader)
    (decoder_for limits l.head.framing) l.decoder l.initial.self.unread.items l.self.unread.items
    l.body.items l.left

abbrev pub decreases-pieces : goal.decreases-pieces
decreases-pieces g l = l.left
