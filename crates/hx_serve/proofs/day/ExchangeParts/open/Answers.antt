use Rattle.std.proofs.Common.{List, ap, ◌∙◌}
use Rattle.hx_rules.specs.declared.event.Event.{Event}
use Rattle.hx_tape_lines.specs.Text.{record_of}
use Rattle.hx_desk.specs.Entries.{restored}
use Rattle.hx_engine.specs.Applied.{AppliedState}
use Rattle.hx_engine.specs.Journals.{lines}
use Rattle.hx_serve.proofs.day.ExchangeParts.open.Goals as goal

-- the day's reader reads the log that its events were applied to
pub invariant_of-crew : goal.invariant_of-crew
invariant_of-crew g c = record {
  belongs = c.look-feed.ensures.same.0 ∙ c.into_parts-applied.ensures.reads ∙ ap (λ (p : AppliedState). p.log) c.into_parts-day.ensures.day ∙ c.requires.feed;
}

-- the journal has the records of the events that the venue begins with
pub open-requires-clause-journal : goal.open-requires-clause-journal
open-requires-clause-journal g c =
    c.into_parts-day.ensures.appended
    ∙ ap (λ (p : AppliedState). lines record_of (restored p.events)) c.into_parts-day.ensures.day
    ∙ ap (λ (l : List Event). lines record_of (restored l)) c.requires.before
