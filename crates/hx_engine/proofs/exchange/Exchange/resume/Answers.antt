use Rattle.std.proofs.Common.{List, ap, ◌∙◌}
use Rattle.hx_rules.specs.declared.event.Event.{Event}
use Rattle.hx_tape_lines.specs.Text.{record_of}
use Rattle.hx_desk.specs.Entries.{restored}
use Rattle.hx_engine.specs.Journals.{lines}
use Rattle.hx_engine.proofs.exchange.Exchange.resume.Goals as goal

-- the journal has the records of the events that the venue begins with
pub open-requires-clause-journal : goal.open-requires-clause-journal
open-requires-clause-journal g c =
    c.args.recovered.appended ∙ ap (λ (l : List Event). lines record_of (restored l)) c.requires.before
