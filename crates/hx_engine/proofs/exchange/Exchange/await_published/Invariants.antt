use Rattle.std.proofs.Common.{◌≡◌}
use Rattle.hx_engine.proofs.exchange.Exchange.await_published.Given as goal

abbrev pub invariant-loop : goal.invariant-loop
invariant-loop g l = (l.knows ≡ l.fn.knows) × (l.entered ≡ l.fn.entered)
