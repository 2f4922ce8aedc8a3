use Rattle.std.proofs.Common.{◌≡◌, ◌+◌, ◌∙◌, ap, sym, length, arith}
use Rattle.hx_fenced_log.specs.declared.terms.head.Head.{Head}
use Rattle.hx_fenced_log.specs.Records.{Record}
use Rattle.hx_fenced_log.proofs.Standing.{numbered_push}
use Rattle.hx_fenced_log.proofs.log.memory.MemoryLogLog.append.Goals as goal

pub invariant_of-self-2 : goal.invariant_of-self-2
invariant_of-self-2 c =
    let items = c.self.inside.records.items in
    let same : c.in_ok-copy.copy.head.number ≡ c.head.result.number =
    ap (λ (r : Record). r.head.number) c.in_ok-copy.ensures ∙ sym (ap (λ (h : Head). h.number) c.head.ensures.head) in
    let there : c.head.result.number ≡ c.args.next.now.head.number = ap (λ (h : Head). h.number) c.head.ensures.head in
    let number : c.in_ok-copy.copy.head.number ≡ 1 + length items =
    omega (arith, same, there, c.head.ensures.of_log.head.number.0, c.len.ensures, c.len-2.ensures, c.if-before-len.false, c.if-before-len-2.false) in
    rw c.in_ok-push.ensures.items (numbered_push 1 items c.in_ok-copy.copy c.self.invariant number)
