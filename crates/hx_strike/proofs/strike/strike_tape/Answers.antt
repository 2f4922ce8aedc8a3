use Rattle.hx_replay.specs.Struck.{struck}
use Rattle.hx_strike.proofs.strike.strike_tape.Goals as goal

pub returns-clause-ok : goal.returns-clause-ok
unfolding struck
returns-clause-ok g c = c.strike_lines.ensures.ok

pub returns-clause-err : goal.returns-clause-err
unfolding struck
returns-clause-err g c = c.strike_lines.ensures.err
