use Rattle.std.proofs.Common.{◌-◌, ◌∙◌, List, drop, sym, subst}
use mathlib.Core.List.{IsPrefix}
use Rattle.hx_fenced_log.specs.Records.{Record}
use Rattle.hx_fenced_log.proofs.Standing.{follows, none_more}
use Rattle.hx_fenced_log.proofs.log.writer.LogWriter.follow.Goals as goal

pub returns-clause-ok : goal.returns-clause-ok
returns-clause-ok g c = λ known h.
    let at = c.args.self.now.reading in
    let log = g.L.Log.committed c.read.new.self in
    let more = c.deref.result.now in
    let later : IsPrefix more (drop (at.number - 1) log) =
    subst (λ (l : List Record). IsPrefix l (drop (at.number - 1) log)) (sym c.deref.ensures.value) c.in_ok-records.ensures.records in
    follows (g.L.Log.committed c.args.log.now) log known more at c.read_all.new.reading c.in_ok-text.text.items h c.in_ok-records.ensures.grows later c.in_ok-text.ensures.after c.in_ok-text.ensures.lines c.in_ok-text.ensures.text

pub returns-clause-some : goal.returns-clause-some
returns-clause-some g c = λ same.
    c.in_ok-records.ensures.some (sym c.deref.ensures.value ∙ none_more c.args.self.now.reading c.read_all.new.reading c.deref.result.now c.in_ok-text.ensures.after same)
