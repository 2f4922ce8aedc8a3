use Rattle.std.proofs.Common.{[], ap, sym, ◌∙◌}
use Rattle.hx_market.specs.Markets.{opening}
use Rattle.hx_audit.proofs.Taken.{opens}
use Rattle.hx_audit.proofs.auditor.Auditor.new.Goals as goal

pub invariant_of-result : goal.invariant_of-result
invariant_of-result c = ([], opens _ (c.in_ok-market.ensures.market ∙ ap opening (sym c.in_ok-market.ensures.setup)))

pub returns-clause-taken : goal.returns-clause-taken
returns-clause-taken c = opens _ (c.in_ok-market.ensures.market ∙ ap opening (sym c.in_ok-market.ensures.setup))
