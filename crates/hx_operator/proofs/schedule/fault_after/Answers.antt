use Rattle.std.proofs.Common.{sym, ap, ◌∙◌}
use Rattle.hx_operator.proofs.Reading.{fault_last, last_decides}
use Rattle.hx_operator.proofs.schedule.fault_after.Goals as goal

pub returns : goal.returns
returns c =
    let next = c.args.next in
    c.fault_later.ensures ∙ sym (last_decides c.args.entries.now next ∙ ap (λ last. fault_last last next) (sym c.in_ok-last.ensures.value))
