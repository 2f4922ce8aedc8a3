use Rattle.std.proofs.Common.{sym, subst}
use Rattle.hx_market.specs.Markets.{Market}
use Rattle.hx_audit.specs.Facts.{FactsTell, AreOfMembers}
use Rattle.hx_audit.proofs.Led.{facts_tell}
use Rattle.hx_audit.proofs.Goes.{led_run}
use Rattle.hx_audit.proofs.Strangers.{users_are_members}
use Rattle.hx_audit.proofs.auditor.AuditorSelection.has.Goals as goal

pub is_quiet_of-requires-clause-tell : goal.is_quiet_of-requires-clause-tell
is_quiet_of-requires-clause-tell c =
    let h = c.self.invariant in
    subst (λ (a : Market). FactsTell a.chains) (sym h.1.market_is) (facts_tell _ (led_run c.self.inside.market.setup h.0))

pub is_quiet_of-requires-clause-of_members : goal.is_quiet_of-requires-clause-of_members
is_quiet_of-requires-clause-of_members c =
    let h = c.self.invariant in
    subst (λ (a : Market). AreOfMembers a.tokens) (sym h.1.market_is) (users_are_members c.self.inside.market.setup h.0 h.1.recorded)
