use Rattle.std.proofs.Common.{ap, ◌∙◌}
use Rattle.hx_engine.specs.Applied.{AppliedState}
use Rattle.hx_engine.proofs.exchange.Exchange.open.Goals as goal

-- the exchange has the log over which the events were applied, and the logs that it was given
pub invariant_of-exchange : goal.invariant_of-exchange
invariant_of-exchange g c = record {
  named = ap (λ (p : AppliedState). p.log) c.applied.view_is ∙ c.requires.feed;
  admitted_named = c.requires.admitted.0;
  durable_named = c.requires.durable.0;
}
