use Rattle.std.proofs.Common.{List, ◌++◌, ap, sym, ◌∙◌}
use Rattle.hx_rules.specs.declared.event.Event.{Event}
use Rattle.hx_tape_lines.specs.Text.{record_of}
use Rattle.hx_desk.specs.Entries.{restored}
use Rattle.hx_engine.specs.Journals.{lines}
use Rattle.hx_serve.proofs.beginning.Beginning.apply.Goals as goal

-- the applied events are those of the journal
pub invariant_of-result-clause-appended : goal.invariant_of-result-clause-appended
invariant_of-result-clause-appended g c =
    c.args.self.recovered.appended
    ∙ ap (λ (l : List Event). lines record_of (restored l))
    (sym (c.in_default.ensures.applied ∙ ap (λ (l : List Event). l ++ c.deref.result.now) c.in_ok-day.ensures.events ∙ c.deref.ensures.value))

pub returns-clause-events : goal.returns-clause-events
returns-clause-events g c =
    c.in_default.ensures.applied ∙ ap (λ (l : List Event). l ++ c.deref.result.now) c.in_ok-day.ensures.events ∙ c.deref.ensures.value
