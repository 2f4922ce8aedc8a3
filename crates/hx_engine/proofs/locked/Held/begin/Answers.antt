use Rattle.std.proofs.Common.{◌∙◌, length, ap, sym, arith}
use Rattle.hx_blog.specs.Ends.{ReceiptState, WriterState}
use Rattle.hx_blog.specs.Feed.{Entries}
use Rattle.hx_desk.specs.declared.entry.Entry.{Entry}
use Rattle.hx_desk.specs.Known.{history_of}
use Rattle.hx_desk.specs.Desks.{DeskState}
use Rattle.hx_engine.specs.Journals.{unspoken}
use Rattle.hx_engine.proofs.HeldLaws.{published_of_unspoken, length_unspoken, begun_at, spelled_from, some_at}
use Rattle.hx_engine.proofs.locked.Held.begin.Goals as goal
use Rattle.hx_tape_lines.specs.Text.{record_of}

pub invariant_of-result-clause-silent : goal.invariant_of-result-clause-silent
invariant_of-result-clause-silent g c =
    let held = c.args.self.now in
    let known = ap (λ (r : ReceiptState Entry). r.known) c.receipt.ensures.receipt ∙ ap (λ (w : WriterState Entry). w.published) held.registered in
    known ∙ ap unspoken (sym (published_of_unspoken held.desk.history)) ∙ ap (λ (k : Entries Entry). unspoken (history_of k)) (sym known)

pub invariant_of-result-clause-ends : goal.invariant_of-result-clause-ends
invariant_of-result-clause-ends g c =
    let held = c.args.self.now in
    let known = ap (λ (r : ReceiptState Entry). r.known) c.receipt.ensures.receipt ∙ ap (λ (w : WriterState Entry). w.published) held.registered in
    c.sealed_len.ensures ∙ ap (λ (d : DeskState). d.sealed) c.seal.ensures ∙ sym (length_unspoken held.desk.history) ∙ sym (ap (λ (k : Entries Entry). length k) known)

pub invariant_of-result-clause-begun : goal.invariant_of-result-clause-begun
invariant_of-result-clause-begun g c =
    let held = c.args.self.now in
    let s = c.stands.ensures.standing in
    let known = ap (λ (r : ReceiptState Entry). r.known) c.receipt.ensures.receipt ∙ ap (λ (w : WriterState Entry). w.published) held.registered in
    begun_at held.desk.history held.desk.published_end c.in_ok-journal_writer.journal_writer.writer.published c.receipt.result.known (omega (arith, s.order, s.within)) known (some_at _ held.journal_writer c.in_ok-journal_writer.journal_writer c.in_ok-journal_writer.ensures.value held.home).0

pub invariant_of-result-clause-spelled : goal.invariant_of-result-clause-spelled
invariant_of-result-clause-spelled g c =
    let held = c.args.self.now in
    let s = c.stands.ensures.standing in
    let known = ap (λ (r : ReceiptState Entry). r.known) c.receipt.ensures.receipt ∙ ap (λ (w : WriterState Entry). w.published) held.registered in
    spelled_from record_of held.desk.history held.desk.published_end held.desk.sealed c.in_ok-journal_writer.journal_writer.writer.published c.receipt.result.known _ (omega (arith, s.order, s.within)) known (some_at _ held.journal_writer c.in_ok-journal_writer.journal_writer c.in_ok-journal_writer.ensures.value held.home).0
    (some_at _ held.journal_writer c.in_ok-journal_writer.journal_writer c.in_ok-journal_writer.ensures.value held.home).1
    (c.replace-records.ensures.value ∙ held.spelled)
