-- The records of events that an exchange resumes from.
use Rattle.std.proofs.Common.{◌≡◌, List, [], ◌∷◌, map, refl, ap}
use Rattle.hx_rules.specs.declared.event.Event.{Event}
use Rattle.hx_tape_lines.specs.Text.{record_of}
use Rattle.hx_desk.specs.Entries.{restored}
use Rattle.hx_engine.specs.Journals.{lines}

pub lines_restored : (events : List Event) → lines record_of (restored events) ≡ map record_of events
lines_restored [] = refl
lines_restored (e ∷ events) = ap (λ l. record_of e ∷ l) (lines_restored events)
