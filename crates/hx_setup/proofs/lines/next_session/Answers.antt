use Rattle.hx_setup.specs.SetupText.{session_line}
use Rattle.hx_setup.specs.Reading.{IsSession}
use Rattle.hx_setup.proofs.Spelling.{session_feed, next_feed, next_line}
use Rattle.hx_setup.proofs.lines.next_session.Goals as goal

pub returns-in_err-line-clause-none : goal.returns-in_err-line-clause-none
returns-in_err-line-clause-none c = rw c.from_residual.ensures (next_feed session_line IsSession session_feed c.args.text.now c.in_err-line.ensures.none)

pub returns-in_err-read_session-clause-none : goal.returns-in_err-read_session-clause-none
returns-in_err-read_session-clause-none c = rw c.from_residual-in_err-read_session.ensures (next_line session_line IsSession session_feed c.args.text.now c.in_ok-line.line.now c.in_ok-line.rest.now c.in_ok-line.ensures.some c.in_err-read_session.ensures.none)
