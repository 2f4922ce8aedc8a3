use Rattle.hx_replay.specs.Struck.{struck_all}
use Rattle.hx_strike.proofs.strike.strike_all_tape.Goals as goal

pub returns-clause-ok : goal.returns-clause-ok
unfolding struck_all
returns-clause-ok g c = c.strike_lines.ensures.ok

pub returns-clause-err : goal.returns-clause-err
unfolding struck_all
returns-clause-err g c = c.strike_lines.ensures.err
