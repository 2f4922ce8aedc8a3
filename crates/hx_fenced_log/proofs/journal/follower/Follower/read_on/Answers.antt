use Rattle.std.specs.Prelude.{IfOk, OnOk, OnErr}
use Rattle.std.proofs.Common.{◌≡◌, ◌≤◌, length, subst}
use Rattle.hx_fenced_log.specs.JournalStates.{count_read, reported, TellsMore}
use Rattle.hx_fenced_log.proofs.Keeping.{followed, none_more, tells, tells_same}
use Rattle.hx_fenced_log.proofs.journal.follower.Follower.read_on.Goals as goal

pub invariant_of-self : goal.invariant_of-self
invariant_of-self g c =
    followed (g.L.Log.committed c.self.inside.log) (g.L.Log.committed c.follow.new.log) c.self.inside.writer c.follow.new.self c.self.invariant c.follow.ensures.grows c.follow.result (λ t. t.items) c.follow.ensures.ok c.follow.ensures.err

pub returns-clause-ok : goal.returns-clause-ok
returns-clause-ok g c =
    let log = g.L.Log.committed c.follow.new.log in
    subst (λ f. IfOk c.follow.result (λ t. TellsMore (reported g.L.Log.committed f) (reported g.L.Log.committed (record { log = c.follow.new.log; writer = c.follow.new.self })) t.items)) c.self.view_is
    (tells (g.L.Log.committed c.self.inside.log) log c.self.inside.writer c.follow.new.self c.self.invariant c.follow.ensures.grows c.follow.result (λ t. t.items) c.follow.ensures.ok)

pub returns-clause-same : goal.returns-clause-same
returns-clause-same g c =
    subst (λ f. OnErr c.follow.result (reported g.L.Log.committed (record { log = c.follow.new.log; writer = c.follow.new.self }) ≡ reported g.L.Log.committed f)) c.self.view_is
    (tells_same (g.L.Log.committed c.self.inside.log) (g.L.Log.committed c.follow.new.log) c.self.inside.writer c.follow.new.self c.self.invariant c.follow.ensures.grows c.follow.result c.follow.ensures.err)

pub returns-clause-some : goal.returns-clause-some
returns-clause-some g c =
    subst (λ f. OnOk c.follow.result (count_read c.follow.new.self.reading ≡ count_read f.writer.reading → length (g.L.Log.committed f.log) ≤ count_read f.writer.reading)) c.self.view_is
    (none_more (g.L.Log.committed c.self.inside.log) (g.L.Log.committed c.follow.new.log) c.self.inside.writer c.follow.new.self c.self.invariant c.follow.ensures.grows c.follow.result (λ t. t.items) c.follow.ensures.ok c.follow.ensures.some)
