use Rattle.std.proofs.Common.{◌∙◌, ap}
use Rattle.hx_fenced_log.specs.JournalStates.{durable, reported, read_of}
use Rattle.hx_fenced_log.proofs.Known.{took_over, took_over_taken}
use Rattle.hx_fenced_log.proofs.Keeping.{same_writer_read, same_writer_taken}
use Rattle.hx_fenced_log.proofs.journal.follower.Follower.take_over.Goals as goal

pub new-requires-clause-read : goal.new-requires-clause-read
new-requires-clause-read g c =
    let old = g.L.Log.committed c.self.inside.log in
    let a = c.self.inside.writer in
    took_over old (g.L.Log.committed c.take_over.new.log) a c.take_over.new.self (c.in-Ok.ensures.ok (read_of old a.reading) c.self.invariant)

pub at-requires : goal.at-requires
at-requires g c = same_writer_read (g.L.Log.committed c.self.inside.log) (g.L.Log.committed c.take_over.new.log) c.self.inside.writer c.take_over.new.self c.self.invariant c.take_over.ensures.grows c.in-Err.ensures.err

pub returns-in-Ok-clause-durable : goal.returns-in-Ok-clause-durable
returns-in-Ok-clause-durable g c =
    let old = g.L.Log.committed c.self.inside.log in
    let a = c.self.inside.writer in
    ap (durable g.L.Log.committed) c.new.ensures
    ∙ took_over_taken old (g.L.Log.committed c.take_over.new.log) a c.take_over.new.self (c.in-Ok.ensures.ok (read_of old a.reading) c.self.invariant)
    ∙ ap (reported g.L.Log.committed) c.self.view_is

pub returns-in-Err-clause-same : goal.returns-in-Err-clause-same
returns-in-Err-clause-same g c =
    ap (reported g.L.Log.committed) c.at.ensures
    ∙ same_writer_taken (g.L.Log.committed c.self.inside.log) (g.L.Log.committed c.take_over.new.log) c.self.inside.writer c.take_over.new.self c.self.invariant c.take_over.ensures.grows c.in-Err.ensures.err
    ∙ ap (reported g.L.Log.committed) c.self.view_is
