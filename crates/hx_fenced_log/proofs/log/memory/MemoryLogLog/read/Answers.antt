use Rattle.std.proofs.Common.{◌≡◌, ◌+◌, ◌-◌, ◌∙◌, ℕ, List, take, drop, sym, ap, subst, arith, length-drop}
use Rattle.std.proofs.Math.Seq.{take-length}
use Rattle.hx_fenced_log.specs.Records.{Record}
use Rattle.hx_fenced_log.specs.Logs.{AreNumbered}
use Rattle.hx_fenced_log.proofs.Standing.{numbered_drop}
use Rattle.hx_fenced_log.proofs.log.memory.MemoryLogLog.read.Goals as goal

pub returns-clause-numbered : goal.returns-clause-numbered
returns-clause-numbered c =
    let items = c.self.inside.records.items in
    let all = c.deref.result.now in
    let before = c.args.from - 1 in
    let from : 1 + before ≡ c.args.from = omega (arith, c.requires) in
    let is : c.in_ok-found.found.items ≡ drop before items =
    c.in_ok-found.ensures ∙ ap (λ (k : ℕ). take k (drop before all)) (sym (length-drop before all)) ∙ take-length (drop before all) ∙ ap (drop before) c.deref.ensures.value in
    subst (λ (n : ℕ). AreNumbered n c.in_ok-found.found.items) from (subst (λ (l : List Record). AreNumbered (1 + before) l) (sym is) (numbered_drop 1 before items c.self.invariant))
