use Rattle.hx_sessions.proofs.Courses.{no_login_ends, no_login_fails}
use Rattle.hx_sessions.proofs.opening.admit.Goals as goal

pub returns-in-Err-Ended-clause-err : goal.returns-in-Err-Ended-clause-err
returns-in-Err-Ended-clause-err g c =
    no_login_ends g.V.Venue.setup c.args.logins.now.setup.now c.args.logins.now.copies.now _ _ (g.W.Write.contents c.args.line.now.output) c.read_login.new.reader.known c.in-Err-Ended.ended (rw c.in-Err-Ended.field-0-is at c.in-Err-Ended.ensures.err)

pub returns-in-Err-Faulted-clause-err : goal.returns-in-Err-Faulted-clause-err
returns-in-Err-Faulted-clause-err g c =
    no_login_fails g.V.Venue.setup c.args.logins.now.setup.now c.args.logins.now.copies.now _ _ (g.W.Write.contents c.args.line.now.output) c.read_login.new.reader.known c.in-Err-Faulted.fault (rw c.in-Err-Faulted.field-0-is at c.in-Err-Faulted.ensures.err)
