use Rattle.hx_sessions.specs.declared.ending.Fault.TheVariants as faults
use Rattle.hx_sessions.specs.declared.ending.Stop.TheVariants as stops
use Rattle.hx_sessions.proofs.Taking.{received_here, why_all}
use Rattle.hx_sessions.proofs.inbound.receive.Goals as goal

pub returns-then-is_some-clause-more : goal.returns-then-is_some-clause-more
returns-then-is_some-clause-more g c = λ start first so_far.
    received_here c.args.trader.now.member _ _ _ _ _ (stops.Faulted faults.Stopped) so_far (λ ps ds a. why_all (g.R.Read.remaining c.args.inbox.now.input) faults.Stopped ps ds a)
