use Rattle.std.proofs.Common.{◌≡◌, ◌+◌, ap, arith}
use Rattle.hx_fenced_log.specs.declared.terms.head.Head.{Head}
use Rattle.hx_etcd_log.proofs.Paging.{numbered_more, misnumbered}
use Rattle.hx_etcd_log.proofs.copied.check_numbers.Goals as goal

pub returns-then-head-number-clause-err : goal.returns-then-head-number-clause-err
returns-then-head-number-clause-err c =
    let number : c.head.result.number ≡ c.next-item.result.head.number = ap (λ (h : Head). h.number) c.head.ensures.head in
    misnumbered c.args.from c.loop-next.number c.loop-next.next-index c.args.page.now c.next-item.result c.loop-next-test.true c.next-item.is c.loop-next.invariant.count c.loop-next.invariant.numbered
    (λ same. first_of (omega (arith, number, same, c.if-head-number.true), grind (arith, number, same, c.if-head-number.true)))

pub loop-next-preserved : goal.loop-next-preserved
loop-next-preserved c =
    let number : c.head.result.number ≡ c.next-item.result.head.number = ap (λ (h : Head). h.number) c.head.ensures.head in
    let same : c.next-item.result.head.number ≡ c.loop-next.number = first_of (omega (arith, number, c.if-head-number.false), grind (arith, number, c.if-head-number.false)) in
    record {
      count = omega (arith, c.loop-next.invariant.count);
      numbered = numbered_more c.args.from c.loop-next.number c.loop-next.next-index c.args.page.now c.next-item.result c.loop-next-test.true c.next-item.is c.loop-next.invariant.count c.loop-next.invariant.numbered same;
    }
