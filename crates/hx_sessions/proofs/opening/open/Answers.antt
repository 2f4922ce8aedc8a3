use Rattle.std.proofs.Common.{◌≡◌, length, sym, ap, ◌∙◌, subst}
use Rattle.std.specs.Prelude.{IfOk}
use Rattle.hx_blog.specs.Ends.{ReaderState}
use Rattle.hx_desk.specs.declared.entry.Entry.{Entry}
use Rattle.hx_desk.specs.Known.{known_replies}
use Rattle.hx_sessions.specs.Copies.{read_by}
use Rattle.hx_sessions.specs.Logins.{Opens}
use Rattle.hx_sessions.proofs.Logging.{started_by, started_by_none}
use Rattle.hx_sessions.proofs.opening.open.Goals as goal
use Rattle.hx_sessions.proofs.opening.open.Goals.{in-Some, in-None}

pub returns-clause-ok : goal.returns-clause-ok
returns-clause-ok g c =
    let setup = g.V.Venue.setup in
    let own = c.args.logins.now.setup.now in
    let copies = c.args.logins.now.copies.now in
    let login = c.args.login.now in
    let replies = c.match-login.replies in
    elim c.match-login.branch [
      | in-Some w ↦
          let known = w.news.new.reader.known in
          let count : replies ≡ length (known_replies setup (read_by copies w.in-Some.member) known) = w.replies-is ∙ (w.news.ensures.news.replies ∙ ap (λ m. length (known_replies setup m known)) w.read_by-member.ensures) in
          subst (λ (r : ReaderState Entry). IfOk c.start.result (λ s. Opens setup own copies login r.known s)) (sym w.reader-is)
          (started_by setup own copies login replies w.in-Some.member known c.start.result c.start.ensures (sym w.in-Some.ensures) count w.news.ensures.whole)
      | in-None w ↦ started_by_none setup own copies login replies c.match-login.reader.known c.start.result c.start.ensures (sym w.in-None.ensures)
    ]
