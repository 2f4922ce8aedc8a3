use Rattle.std.proofs.Common.{◌++◌, ◌∷◌, [], ◌∙◌, ap, subst}
use Rattle.hx_journal.specs.Lines.{lines_of}
use Rattle.hx_journal.specs.Crashes.{Leaves}
use Rattle.hx_fenced_log.specs.JournalStates.{durable, appended, count_read, taken_of}
use Rattle.hx_fenced_log.specs.Stops.{IsLeftSince}
use Rattle.hx_fenced_log.proofs.Keeping.{appends, appended_more, append_leaves}
use Rattle.hx_fenced_log.proofs.journal.log_journal.LogJournalJournal.append.Goals as goal

pub invariant_of-self-2 : goal.invariant_of-self-2
invariant_of-self-2 g c =
    appends (g.L.Log.committed c.self.inside.log) c.self.inside.writer c.self.inside.waiting.items c.args.bytes.now c.push_line.new.lines.items c.self.invariant c.requires.record_is c.in_ok-push_line.ensures.ok

pub returns-clause-appended : goal.returns-clause-appended
returns-clause-appended g c =
    let log = g.L.Log.committed c.self.inside.log in
    let w = c.self.inside.writer in
    appended_more (taken_of log w.reading) log w c.self.inside.waiting.items c.args.bytes.now c.push_line.new.lines.items c.self.invariant c.requires.record_is c.in_ok-push_line.ensures.ok
    ∙ ap (λ j. appended g.L.Log.committed j ++ c.args.bytes.now ∷ []) c.self.view_is

pub returns-clause-any_moment : goal.returns-clause-any_moment
returns-clause-any_moment g c = λ _.
    let log = g.L.Log.committed c.self.inside.log in
    let w = c.self.inside.writer in
    subst (λ j. Leaves (count_read j.writer.reading) (count_read w.reading) (IsLeftSince (g.L.Log.committed j.log) j.writer j.waiting) (IsLeftSince log w (lines_of c.push_line.new.lines.items))
    (durable g.L.Log.committed j) (appended g.L.Log.committed j ++ c.args.bytes.now ∷ [])) c.self.view_is
    (append_leaves log w c.self.inside.waiting.items c.args.bytes.now c.push_line.new.lines.items c.self.invariant c.requires.record_is c.in_ok-push_line.ensures.ok)
