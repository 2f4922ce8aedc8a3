-- The records of events that an exchange resumes from.
use Rattle.std.proofs.Common.{◌≡◌, ◌∙◌, ◌≤◌, ℕ, List, [], ◌∷◌, ◌++◌, length, map, drop, refl, ap, sym}
use Rattle.std.proofs.lemmas.List.{append-nil, drop_all}
use Rattle.hx_rules.specs.declared.event.Event.{Event}
use Rattle.hx_tape_lines.specs.Text.{record_of}
use Rattle.hx_desk.specs.Entries.{restored}
use Rattle.hx_engine.specs.Journals.{lines}
use Rattle.hx_recovery.proofs.Restored.{lines_restored}

-- records that were written of all events are theirs
pub all_written : (texts : List (List ℕ)) (events : List Event) (i : ℕ) → length events ≤ i → texts ++ map record_of (drop i events) ≡ map record_of events → texts ≡ lines record_of (restored events)
all_written texts events i end written =
    sym (append-nil texts) ∙ (ap (λ l. texts ++ map record_of l) (sym (drop_all i events end)) ∙ (written ∙ sym (lines_restored events)))
