use Rattle.std.proofs.Common.{◌≡◌, ℕ, ◌+◌, ◌-◌, List, drop, sym, subst, arith}
use Rattle.std.proofs.lemmas.Grind.{common_steps}
use Rattle.hx_fenced_log.specs.Records.{Record}
use Rattle.hx_fenced_log.specs.Logs.{AreNumbered}
use Rattle.hx_fenced_log.proofs.Standing.{numbered_drop}
use Rattle.hx_etcd_log.specs.Notes.{records_of}
use Rattle.hx_etcd_log.proofs.reported.Reported.copies.Goals as goal

pub returns-clause-numbered : goal.returns-clause-numbered
returns-clause-numbered c =
    let records = records_of c.self.inside.noted.notes in
    let before = c.args.from - 1 in
    let is : c.in_ok-found.found.items ≡ drop before records = grind (arith, common_steps) in
    let from : 1 + before ≡ c.args.from = omega (arith, c.requires) in
    subst (λ (n : ℕ). AreNumbered n c.in_ok-found.found.items) from
    (subst (λ (l : List Record). AreNumbered (1 + before) l) (sym is) (numbered_drop 1 before records c.self.invariant.numbered))
