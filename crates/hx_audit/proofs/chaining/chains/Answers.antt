use Rattle.std.proofs.Common.{refl, ◌∙◌}
use Rattle.hx_market.specs.Markets.{Market}
use Rattle.hx_market.specs.Steps.{run}
use Rattle.hx_audit.proofs.Rooted.{output_run}
use Rattle.hx_audit.proofs.Strangers.{no_chains}
use Rattle.hx_audit.proofs.chaining.chains.Goals as goal

pub tell-requires : goal.tell-requires
tell-requires c =
    let m = c.args.member in
    let all : Market = run c.args.setup.now c.args.events.now in
    let groups = c.into_chains.ensures ∙ c.in_ok-take_all.ensures.chains in
    rw (groups, c.in_ok-take_all.ensures.market, c.in_ok-market.ensures.setup) (output_run c.args.setup.now c.args.events.now m)

pub returns-clause-chains : goal.returns-clause-chains
returns-clause-chains c =
    rw (c.in_ok-tell.ensures, c.into_chains.ensures, c.in_ok-take_all.ensures.chains, c.in_ok-take_all.ensures.market, c.in_ok-market.ensures.setup) refl

pub returns-clause-stranger : goal.returns-clause-stranger
returns-clause-stranger c h =
    returns-clause-chains c ∙ no_chains c.args.setup.now c.args.member c.args.events.now (rw (← c.in_ok-market.ensures.setup) c.in_ok-take_all.ensures.recorded) h
