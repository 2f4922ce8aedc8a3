use Rattle.hx_sessions.proofs.Courses as courses
use Rattle.hx_sessions.proofs.laws.sessions_go_on.Goals as goal

pub returns : goal.returns
returns c = courses.sessions_go_on
