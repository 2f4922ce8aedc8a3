use Rattle.std.proofs.Common.{ℕ, List, rules, subst}
use Rattle.hx_etcd.specs.Connections.{IsHeadFault}
use Rattle.hx_etcd.specs.Pieces.{HasBadHead}
use Rattle.hx_etcd.proofs.Streams.{bad_head}
use Rattle.hx_etcd.proofs.inlet.Inlet.next_head.Goals as goal

pub returns-in_err-head-clause-err : goal.returns-in_err-head-clause-err
returns-in_err-head-clause-err g c =
    let bad = subst (λ (l : List ℕ). HasBadHead l c.in_err-head.field-0.0) c.deref.ensures.value c.in_err-head.ensures.err in
    let fault : IsHeadFault (g.R.Read.remaining c.args.self.now.reader) (g.R.Read.remaining c.heads.self.reader) c.args.self.now.unread.items c.in_err-head.field-0.0 =
    bad_head _ _ _ c.heads.self.unread.items c.in_err-head.field-0.0 c.heads.invariant bad in
    search (rules, fault)
