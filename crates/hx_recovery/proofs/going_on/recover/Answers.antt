use Rattle.std.proofs.Common.{sym, ◌∙◌, ap}
use Rattle.hx_journal.specs.Records.{recovered}
use Rattle.hx_recovery.proofs.Reading.{durable_as, appended_as, read_as}
use Rattle.hx_recovery.proofs.going_on.recover.Goals as goal

-- the journal holds the records of the events that its tape gave
pub invariant_of-result : goal.invariant_of-result
invariant_of-result g c =
    let opened = c.in-Ok.ensures.opened in
    let tape = sym c.deref.ensures.value ∙ c.in_ok-events-in-Ok.ensures.tape in
    record {
      appended = appended_as _ _ _ _ _ c.in_ok-events-in-Ok.events.items opened tape;
      durable = durable_as _ _ _ _ _ c.in_ok-events-in-Ok.events.items opened tape ∙ sym (appended_as _ _ _ _ _ c.in_ok-events-in-Ok.events.items opened tape);
      opened = opened.is_open;
    }

pub returns-in_ok-events-in-Ok : goal.returns-in_ok-events-in-Ok
returns-in_ok-events-in-Ok g c = record {
  read =
      read_as _ _ _ _ _ c.in_ok-events-in-Ok.events.items c.in-Ok.ensures.opened (sym c.deref.ensures.value ∙ c.in_ok-events-in-Ok.ensures.tape)
      ∙ ap recovered c.opened.ensures.seen;
}
