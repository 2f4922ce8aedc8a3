-- The events of the reported lines of a log.
use Rattle.std.specs.Prelude.{◌≡◌, ℕ, List, Option}
use Rattle.std.specs.Io.KnownBytes.{Appends}
use Rattle.hx_tape_lines.specs.Text.{record_of}
use Rattle.hx_rules.specs.declared.event.Event.{Event}
use Rattle.hx_desk.specs.Entries.{restored}
use Rattle.hx_engine.specs.Journals.{lines}
use Rattle.hx_fenced_log.specs.JournalStates.{TellsMore}

-- these are the events of the reported lines
abbrev pub HasEvents : (reported : List (List ℕ)) → List Event → Type 0
HasEvents reported events = reported ≡ lines record_of (restored events)

-- the newly reported lines are written
pub record IsWritten (before now : List (List ℕ)) (old new : Option (List ℕ)) : Type 0 where
  pub text : List ℕ
  pub tells : TellsMore before now text
  pub wrote : Appends old new text
