-- The operator's lines of a tape.
use Rattle.std.specs.Prelude.{◌≡◌, ℕ, List, Some}
use Rattle.hx_rules.specs.declared.event.Event.{Event}
use Rattle.hx_rules.specs.OperatorMessages.{operator_event}
use Rattle.hx_tape_lines.specs.Text.{Entry, IsEntry, line}

-- the text is the line of an entry of member 0 whose bytes say this event
pub record IsOperatorLine (text : List ℕ) (event : Event) : Type 0 where
  pub entry : Entry
  pub is_entry : IsEntry entry
  pub text_is : text ≡ line entry
  pub operator : entry.member ≡ 0
  pub says : operator_event entry.time entry.bytes ≡ Some event

-- the text is the operator's line of no event
abbrev pub IsNoOperatorLine : List ℕ → Type 0
IsNoOperatorLine text = (event : Event) → IsOperatorLine text event → ⊥
