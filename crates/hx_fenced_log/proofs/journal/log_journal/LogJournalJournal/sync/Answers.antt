use Rattle.std.specs.Prelude.{Some}
use Rattle.std.proofs.Common.{sym, ◌++◌, ◌∙◌, List, ℕ, ap, subst}
use Rattle.hx_journal.specs.Lines.{text_of, lines_of}
use Rattle.hx_journal.specs.Crashes.{Leaves}
use Rattle.hx_fenced_log.specs.JournalStates.{durable, appended, count_read, read_of}
use Rattle.hx_fenced_log.specs.JournalFaults.{IsClosedBy}
use Rattle.hx_fenced_log.specs.Stops.{IsLeftSince}
use Rattle.hx_fenced_log.proofs.Keeping.{still_active, still_durable, refused_leaves, closed_by, stays_active, keeps_more, keeps_all, keeps_leaves}
use Rattle.hx_fenced_log.proofs.journal.log_journal.LogJournalJournal.sync.Goals as goal

pub invariant_of-self : goal.invariant_of-self
invariant_of-self g c =
    let old = g.L.Log.committed c.self.inside.log in
    let new = g.L.Log.committed c.keep.new.log in
    let a = c.self.inside.writer in
    let b = c.keep.new.self in
    let k = c.in-Ok.ensures.ok (read_of old a.reading) c.self.invariant.read in
    stays_active old new a b c.self.inside.waiting.items c.clear.new.self.items c.self.invariant c.keep.ensures.grows c.keep.ensures.who c.in_ok-text.text.items (c.in_ok-text.ensures.items ∙ c.deref.ensures.value) k c.clear.ensures.items

pub invariant_of-self-in-Log-NoMemory : goal.invariant_of-self-in-Log-NoMemory
invariant_of-self-in-Log-NoMemory g c =
    still_active (g.L.Log.committed c.self.inside.log) (g.L.Log.committed c.keep.new.log) c.self.inside.writer c.keep.new.self c.self.inside.waiting.items c.self.invariant c.keep.ensures.grows c.in-Err.ensures.err

pub invariant_of-self-in-Err : goal.invariant_of-self-in-Err
invariant_of-self-in-Err g c =
    still_active (g.L.Log.committed c.self.inside.log) (g.L.Log.committed c.keep.new.log) c.self.inside.writer c.keep.new.self c.self.inside.waiting.items c.self.invariant c.keep.ensures.grows c.in-Err.ensures.err

pub returns-in-Ok-clause-durable : goal.returns-in-Ok-clause-durable
returns-in-Ok-clause-durable g c =
    let old = g.L.Log.committed c.self.inside.log in
    let new = g.L.Log.committed c.keep.new.log in
    let a = c.self.inside.writer in
    let b = c.keep.new.self in
    let k = c.in-Ok.ensures.ok (read_of old a.reading) c.self.invariant.read in
    keeps_more old new a b c.self.inside.waiting.items c.clear.new.self.items c.self.invariant c.keep.ensures.grows c.keep.ensures.who c.in_ok-text.text.items (c.in_ok-text.ensures.items ∙ c.deref.ensures.value) k c.clear.ensures.items
    ∙ ap (appended g.L.Log.committed) c.self.view_is

pub returns-in-Ok-clause-appended : goal.returns-in-Ok-clause-appended
returns-in-Ok-clause-appended g c =
    let old = g.L.Log.committed c.self.inside.log in
    let new = g.L.Log.committed c.keep.new.log in
    let a = c.self.inside.writer in
    let b = c.keep.new.self in
    let k = c.in-Ok.ensures.ok (read_of old a.reading) c.self.invariant.read in
    keeps_all old new a b c.self.inside.waiting.items c.clear.new.self.items c.self.invariant c.keep.ensures.grows c.keep.ensures.who c.in_ok-text.text.items (c.in_ok-text.ensures.items ∙ c.deref.ensures.value) k c.clear.ensures.items
    ∙ ap (appended g.L.Log.committed) c.self.view_is

pub returns-in-Ok-clause-any_moment : goal.returns-in-Ok-clause-any_moment
returns-in-Ok-clause-any_moment g c = λ _.
    let old = g.L.Log.committed c.self.inside.log in
    let new = g.L.Log.committed c.keep.new.log in
    let a = c.self.inside.writer in
    let b = c.keep.new.self in
    let k = c.in-Ok.ensures.ok (read_of old a.reading) c.self.invariant.read in
    subst (λ j. Leaves (count_read j.writer.reading) (count_read b.reading) (IsLeftSince (g.L.Log.committed j.log) j.writer j.waiting) (IsLeftSince new b (lines_of c.clear.new.self.items))
    (durable g.L.Log.committed j) (appended g.L.Log.committed j)) c.self.view_is
    (keeps_leaves old new a b c.self.inside.waiting.items c.clear.new.self.items c.self.invariant c.keep.ensures.grows c.keep.ensures.who c.in_ok-text.text.items (c.in_ok-text.ensures.items ∙ c.deref.ensures.value) k c.clear.ensures.items)

pub returns-in-Log-NoMemory-clause-refused : goal.returns-in-Log-NoMemory-clause-refused
returns-in-Log-NoMemory-clause-refused g c = λ _.
    let same = still_durable (g.L.Log.committed c.self.inside.log) (g.L.Log.committed c.keep.new.log) c.self.inside.writer c.keep.new.self c.self.inside.waiting.items c.self.invariant c.keep.ensures.grows c.in-Err.ensures.err in (
      ap (λ (l : List (List ℕ)). l ++ lines_of c.self.inside.waiting.items) same ∙ ap (appended g.L.Log.committed) c.self.view_is,
      same ∙ ap (durable g.L.Log.committed) c.self.view_is,
    )

pub returns-in-Log-NoMemory-clause-any_moment : goal.returns-in-Log-NoMemory-clause-any_moment
returns-in-Log-NoMemory-clause-any_moment g c = λ _.
    let new = g.L.Log.committed c.keep.new.log in
    let b = c.keep.new.self in
    subst (λ j. Leaves (count_read j.writer.reading) (count_read b.reading) (IsLeftSince (g.L.Log.committed j.log) j.writer j.waiting) (IsLeftSince new b (lines_of c.self.inside.waiting.items))
    (durable g.L.Log.committed j) (appended g.L.Log.committed j)) c.self.view_is
    (refused_leaves (g.L.Log.committed c.self.inside.log) new c.self.inside.writer b c.self.inside.waiting.items c.self.invariant c.keep.ensures.grows c.in-Err.ensures.err)

pub returns-after-error-clause-any_moment : goal.returns-after-error-clause-any_moment
returns-after-error-clause-any_moment g c = λ _.
    let new = g.L.Log.committed c.keep.new.log in
    let b = c.keep.new.self in
    subst (λ j. Leaves (count_read j.writer.reading) (count_read b.reading) (IsLeftSince (g.L.Log.committed j.log) j.writer j.waiting) (IsLeftSince new b (lines_of c.self.inside.waiting.items))
    (durable g.L.Log.committed j) (appended g.L.Log.committed j)) c.self.view_is
    (refused_leaves (g.L.Log.committed c.self.inside.log) new c.self.inside.writer b c.self.inside.waiting.items c.self.invariant c.keep.ensures.grows c.in-Err.ensures.err)

pub returns-after-error-clause-fault : goal.returns-after-error-clause-fault
returns-after-error-clause-fault g c =
    let new = g.L.Log.committed c.keep.new.log in
    subst (λ j. IsClosedBy (g.L.Log.committed j.log) new j.writer (text_of j.waiting) j.fault (Some c.in-Err.error)) c.self.view_is
    (closed_by (g.L.Log.committed c.self.inside.log) new c.self.inside.writer c.self.inside.waiting.items c.in_ok-text.text.items c.self.inside.fault c.in-Err.error c.self.invariant.text_is
    (c.in_ok-text.ensures.items ∙ c.deref.ensures.value) (sym c.is_some.ensures ∙ c.if-is_some.false) c.in-Err.ensures.fault)
