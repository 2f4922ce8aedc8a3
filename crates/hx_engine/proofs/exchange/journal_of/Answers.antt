use Rattle.std.proofs.Common.{◌≡◌, ◌∙◌, ap, sym}
use Rattle.hx_desk.specs.Known.{history_of}
use Rattle.hx_engine.specs.Journals.{unspoken, lines}
use Rattle.hx_engine.proofs.HeldLaws.{published_of_unspoken, some_at}
use Rattle.hx_engine.proofs.exchange.journal_of.Goals as goal
use Rattle.hx_tape_lines.specs.Text.{record_of}

pub returns-in-Some : goal.returns-in-Some
returns-in-Some g c = λ h p.
    let k = c.in-Some.journal_writer in
    let is = some_at (λ k. k.writer.published ≡ unspoken h) c.args.journal_writer k (sym c.in-Some.is) p in
    (k.recorded ∙ ap (lines record_of) (ap history_of is ∙ published_of_unspoken h), k.safe, k.opened, c.stands.ensures k.opened)
