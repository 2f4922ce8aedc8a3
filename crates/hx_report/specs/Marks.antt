-- What a strike sees of a day's lines.
use Rattle.std.specs.Prelude.{◌≡◌, List, [], ◌∷◌, map}
use Rattle.hx_members.specs.Setups.{Setup}
use Rattle.hx_rules.specs.declared.event.Event.{Event}
use Rattle.hx_market.specs.Markets.{Market}
use Rattle.hx_market.specs.Steps.{run, sender}
use Rattle.hx_market.specs.QuietChains.{Choice, bears, is_quiet}
use Rattle.hx_audit.specs.Auditing.{HasTaken, is_borne}
use Rattle.hx_tape_lines.specs.Text.{Entry}
use Rattle.hx_tape_lines.specs.Events.{event_of}
use Rattle.hx_report.specs.declared.marks.Mark.{Mark}
use Rattle.hx_report.specs.declared.marks.TakenLine.{TakenLine}
use Rattle.hx_report.specs.declared.marks.TakenLines.{TakenLines}

-- what a strike sees of an event: its member, and whether it bears a token of one of that member's quiet chains
abbrev pub mark_of : Market → Event → Mark
mark_of market event = record { sender = sender event; quiet = bears (is_quiet market) event }

-- of all events of a day
abbrev pub marks_of : Setup → List Entry → List Mark
marks_of setup es = map (λ e. mark_of (run setup (map event_of es)) (event_of e)) es

-- the same of a line that is taken
abbrev pub marked_by : Choice → TakenLine → Mark
marked_by choice l = record { sender = l.sender; quiet = is_borne choice l.bearing }

-- these lines are those of these events
abbrev pub AreLinesOf : List Entry → List TakenLine → Type 0
AreLinesOf [] [] = Unit {0}
AreLinesOf [] (l ∷ lines) = ⊥
AreLinesOf (e ∷ es) [] = ⊥
AreLinesOf (e ∷ es) (l ∷ lines) =
    (l.sender ≡ sender (event_of e))
    × ((choice : Choice) → is_borne choice l.bearing ≡ bears choice (event_of e))
    × AreLinesOf es lines

-- these events are taken, and nothing else
pub record HasTakenLines (t : TakenLines) (es : List Entry) : Type 0 where
  pub taken : HasTaken t.auditor (map event_of es)
  pub lines_are : AreLinesOf es t.lines.items
