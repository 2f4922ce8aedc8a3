use Rattle.std.proofs.Common.{◌∷◌, [], ◌++◌, List, subst}
use Rattle.std.specs.Prelude.{OnOk}
use Rattle.hx_rules.specs.declared.event.Event.{Event}
use Rattle.hx_audit.specs.Auditing.{Audit, HasTaken}
use Rattle.hx_audit.proofs.Taken.{takes_ok, has_some}
use Rattle.hx_audit.proofs.auditor.Auditor.take.Goals as goal

pub invariant_of-self : goal.invariant_of-self
invariant_of-self c =
    let t = c.take.ensures in
    has_some c.take.result _ _ c.args.event.now t.setup t.passes t.market t.retained c.self.invariant

pub returns-clause-taken : goal.returns-clause-taken
returns-clause-taken c =
    let t = c.take.ensures in
    let next : Audit = record { setup = c.take.new.market.setup; market = c.take.new.market.market; whose = c.self.inside.whose } in
    subst (λ (a : Audit). OnOk c.take.result ((events : List Event) → HasTaken a events → HasTaken next (events ++ c.args.event.now ∷ []))) c.self.view_is
    (takes_ok c.take.result (record { setup = c.self.inside.market.setup; market = c.self.inside.market.market; whose = c.self.inside.whose }) next c.args.event.now t.setup t.passes t.market)
