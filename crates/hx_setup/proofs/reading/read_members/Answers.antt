use Rattle.std.proofs.Common.{nat_lt, sym, ap, ◌∙◌, arith}
use Rattle.std.specs.List.{list_all}
use Rattle.hx_setup.specs.declared.stock.Member.{Member}
use Rattle.hx_setup.proofs.Growing.{members_step, members_end, user_free, first_no, second_no}
use Rattle.hx_setup.proofs.reading.read_members.Goals as goal
use Rattle.hx_setup.proofs.reading.read_members.Goals.{then-not-is_above-via-then-not-is_above, then-not-is_above-via-else-not-is_above+in_ok-insert+then-not-branch}

pub returns-then-not-is_above : goal.returns-then-not-is_above
returns-then-not-is_above c =
    let above = ap (list_all (λ (n : Member). nat_lt n.number c.in-Some.member.number)) (sym c.deref.ensures.value) ∙ sym c.is_above.ensures in
    members_end c.args.text.now c.loop-users.rest.now c.in-Some.later.now c.loop-users.members.items c.in-Some.member c.loop-users.users.keys
    c.loop-users.invariant c.in-Some.ensures.some
    (elim c.then-not-is_above.branch [
      | then-not-is_above-via-then-not-is_above w ↦ first_no _ _ (above ∙ w.if-not-is_above.true)
      | then-not-is_above-via-else-not-is_above+in_ok-insert+then-not-branch w ↦
          second_no _ _ (sym (user_free c.loop-users.members.items c.in-Some.member.user w.in_lower_case.result c.loop-users.users.keys w.in_ok-insert.field-0 c.loop-users.invariant.are.each
          c.in-Some.ensures.some.has.user_size w.in_lower_case.ensures c.loop-users.invariant.keys_are w.in_ok-insert.ensures.added) ∙ w.if-not-branch.true)
    ])

pub loop-users-preserved : goal.loop-users-preserved
loop-users-preserved c =
    let above = ap (list_all (λ (n : Member). nat_lt n.number c.in-Some.member.number)) (sym c.deref.ensures.value) ∙ sym c.is_above.ensures in
    members_step c.args.text.now c.loop-users.rest.now c.in-Some.later.now c.loop-users.members.items c.push.new.self.items c.in-Some.member c.in_lower_case.result c.loop-users.users.keys c.insert.new.self.keys c.in_ok-insert.field-0
    c.loop-users.invariant c.in-Some.ensures.some (omega arith) (above ∙ c.if-not-is_above.false) c.in_lower_case.ensures c.in_ok-insert.ensures.added c.if-not-branch.false c.in_ok-insert.ensures.keys c.in_ok-push.ensures.items
