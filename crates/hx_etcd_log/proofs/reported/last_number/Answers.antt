use Rattle.std.proofs.Common.{ap, ◌∙◌}
use Rattle.hx_fenced_log.specs.declared.terms.head.Head.{Head}
use Rattle.hx_etcd_log.proofs.Known.{last_number}
use Rattle.hx_etcd_log.proofs.reported.last_number.Goals as goal

pub returns-in-Some-clause-last : goal.returns-in-Some-clause-last
returns-in-Some-clause-last c =
    ap (λ (h : Head). h.number) c.head.ensures.head
    ∙ last_number c.args.before c.args.records.now c.in-Some.last.now c.requires.next c.in-Some.ensures.value
