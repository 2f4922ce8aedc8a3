use Rattle.std.proofs.Common.{◌≡◌, ap, sym, ◌∙◌, max}
use Rattle.hx_engine.specs.Applied.{AppliedState}
use Rattle.hx_serve.specs.Applied.{Beside, last_time}
use Rattle.hx_serve.proofs.Applying.{later_of_one_more}
use Rattle.hx_serve.proofs.applied_day.AppliedDayApplies.apply.Goals as goal

pub invariant_of-self-2 : goal.invariant_of-self-2
invariant_of-self-2 c =
    let before = c.self.invariant in
    let more = c.in_ok-apply.ensures.ok in
    record {
      under = ap (λ (p : AppliedState). p.setup) more ∙ before.under;
      reads = before.reads ∙ ap (λ (p : AppliedState). p.log) (sym more);
      until = c.max-self-inside.ensures
          ∙ (λ i. max (before.until i) (c.time_of.ensures i))
          ∙ sym (later_of_one_more 0 c.self.inside.applied.events c.args.event.now)
          ∙ ap (λ (p : AppliedState). last_time p.events) (sym more);
    }
