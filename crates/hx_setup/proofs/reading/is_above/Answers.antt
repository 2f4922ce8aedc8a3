use Rattle.std.proofs.Common.{◌≡◌, ◌-◌, ◌<◌, length, nat_lt, refl, ap, ◌∙◌, arith}
use Rattle.hx_setup.specs.declared.stock.Member.{Member}
use Rattle.hx_setup.proofs.Growing.{below_last}
use Rattle.hx_setup.proofs.reading.is_above.Goals as goal

pub returns-in-Some : goal.returns-in-Some
returns-in-Some c =
    let members = c.args.members.now in
    let last = c.in-Some.last.now in
    let some : 0 < length members = c.in-Some.ensures.item.3.0 in
    let tested : nat_lt c.get.result c.get-in-Some.result ≡ nat_lt last.number c.args.number = rw (c.get.ensures.value, c.get-in-Some.ensures.value) refl in
    tested ∙ ap (λ (m : Member). nat_lt m.number c.args.number) (c.in-Some.ensures.item.3.1 last)
    ∙ below_last members (length members - 1) last c.args.number (omega (arith, some)) c.requires
