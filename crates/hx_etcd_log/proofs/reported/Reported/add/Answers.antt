use Rattle.std.proofs.Common.{ap, length, arith}
use Rattle.hx_fenced_log.specs.declared.terms.head.Head.{Head}
use Rattle.hx_etcd_log.specs.Telling.{Telling}
use Rattle.hx_etcd_log.proofs.Known.{one_reported}
use Rattle.hx_etcd_log.proofs.reported.Reported.add.Goals as goal

pub invariant_of-self : goal.invariant_of-self
invariant_of-self c =
    one_reported _ _ _ _ c.self.inside.count _ c.args.next.now c.self.invariant
    (omega (arith, c.requires, ap (λ (t : Telling). length t.records) c.self.view_is)) c.head.ensures.of_log.head.number.1
    (ap (λ (h : Head). h.number) c.head.ensures.head) c.note_record.ensures c.clear.ensures.items
