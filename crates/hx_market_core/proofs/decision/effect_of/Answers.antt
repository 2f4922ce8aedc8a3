use Rattle.hx_rules.specs.Steps.{sender}
use Rattle.hx_market_core.proofs.decision.effect_of.Goals as goal

pub returns-in_ok-tick_effect-in-Tick-clause-fit : goal.returns-in_ok-tick_effect-in-Tick-clause-fit
returns-in_ok-tick_effect-in-Tick-clause-fit g c = c.in_ok-tick_effect-in-Tick.ensures.fit (sender c.args.event.now)

pub returns-in_ok-hours_effect-in-Hours-clause-fit : goal.returns-in_ok-hours_effect-in-Hours-clause-fit
returns-in_ok-hours_effect-in-Hours-clause-fit g c = c.in_ok-hours_effect-in-Hours.ensures.fit (sender c.args.event.now)

pub returns-in-Halt-clause-fit : goal.returns-in-Halt-clause-fit
returns-in-Halt-clause-fit g c = c.halt_effect.ensures.fit c.args.state.now (sender c.args.event.now)

pub returns-in-Break-clause-fit : goal.returns-in-Break-clause-fit
returns-in-Break-clause-fit g c = c.break_effect.ensures.fit c.args.setup.now (sender c.args.event.now)
