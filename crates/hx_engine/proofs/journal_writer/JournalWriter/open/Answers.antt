use Rattle.std.proofs.Common.{◌∙◌, ap, sym}
use Rattle.hx_blog.specs.Feed.{Entries}
use Rattle.hx_blog.specs.Ends.{WriterState}
use Rattle.hx_desk.specs.declared.entry.Entry.{Entry}
use Rattle.hx_desk.specs.Known.{history_of}
use Rattle.hx_engine.specs.Journals.{unspoken, lines}
use Rattle.hx_engine.proofs.HeldLaws.{published_of_unspoken}
use Rattle.hx_engine.proofs.journal_writer.JournalWriter.open.Goals as goal
use Rattle.hx_tape_lines.specs.Text.{record_of}

pub invariant_of-result-clause-silent : goal.invariant_of-result-clause-silent
invariant_of-result-clause-silent g c =
    let history = c.args.desk.now.history in
    let p = ap (λ (w : WriterState Entry). w.published) c.write_before.ensures in
    p ∙ ap unspoken (sym (published_of_unspoken history)) ∙ ap (λ (k : Entries Entry). unspoken (history_of k)) (sym p)

pub invariant_of-result-clause-recorded : goal.invariant_of-result-clause-recorded
invariant_of-result-clause-recorded g c =
    let history = c.args.desk.now.history in
    let p = ap (λ (w : WriterState Entry). w.published) c.write_before.ensures in
    c.requires.journal ∙ ap (lines record_of) (sym (published_of_unspoken history) ∙ ap history_of (sym p))
