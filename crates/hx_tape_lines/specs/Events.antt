-- The events of lines: what a line says, and which event it is the line of.
use Rattle.std.specs.Prelude.{◌≡◌, ◌≢◌, ◌⊎◌, ◌^◌, ◌<◌, ◌≤◌, ◌==◌, ◌&&◌, ℕ, Bool, true, false, if◌then◌else◌, List, length, is_none}
use Rattle.std.specs.List.{list_any}
use Rattle.std.specs.Option.{option_map_or}
use Rattle.hex.specs.Hex.{IsBytes}
use Rattle.hx_units.specs.Ranges.{IsMember, IsNanos}
use Rattle.hx_rules.specs.declared.event.Event.{Event}
use Rattle.hx_rules.specs.declared.event.Event.TheVariants.{Message, Tick, Hours, Halt, Break}
use Rattle.hx_rules.specs.Hours.{hours_codes}
use Rattle.hx_rules.specs.OperatorMessages.{operator_event, halt_bytes}
use Rattle.hx_tape_lines.specs.Text.{Entry, IsEntry, line, most_bytes}

-- ---- entries

-- the operator has number 0
abbrev pub is_operator : Entry → Bool
is_operator e = e.member == 0

abbrev pub message_of : Entry → Event
message_of e = Message e.member e.time e.bytes

-- the event of an entry: a member's message, or what the operator's bytes say
abbrev pub event_of : Entry → Event
event_of e =
    if is_operator e
    then option_map_or (λ x. x) (operator_event e.time e.bytes) (message_of e)
    else message_of e

-- the operator's bytes say nothing
abbrev pub is_unknown : Entry → Bool
is_unknown e = is_operator e && is_none (operator_event e.time e.bytes)

-- an entry that says something
pub record IsKnown (e : Entry) : Type 0 where
  pub entry : IsEntry e
  pub known : is_unknown e ≡ false

-- ---- lines

-- the text is the line of this event
pub record IsLineOf (text : List ℕ) (event : Event) : Type 0 where
  pub entry : Entry
  pub is_known : IsKnown entry
  pub is_line : text ≡ line entry
  pub event_is : event ≡ event_of entry

-- the text is the line of no event
abbrev pub IsNoLine : List ℕ → Type 0
IsNoLine text =
    ((e : Entry) → IsEntry e → text ≢ line e)
    ⊎ ((e : Entry) × IsEntry e × (text ≡ line e) × (is_unknown e ≡ true))

-- the text is the line of this event, and of no other
pub record IsOnlyLineOf (text : List ℕ) (event : Event) : Type 0 where
  pub its_line : IsLineOf text event
  pub of_no_other : (other : Event) → IsLineOf text other → other ≡ event
  pub a_line : IsNoLine text → ⊥

-- ---- what can be sent

-- an event that a member or the operator can send, within the day
abbrev pub CanBeSent : Event → Type 0
CanBeSent (Message member time bytes) =
    IsNanos time × IsMember member × (0 < length bytes) × (length bytes ≤ most_bytes)
    × IsBytes bytes
CanBeSent (Tick time) = IsNanos time
CanBeSent (Hours time code) = IsNanos time × (list_any (λ x. x == code) hours_codes ≡ true)
CanBeSent (Halt time stock state reason) =
    IsNanos time × (length stock.0 ≡ 8) × (length reason ≡ 4)
    × IsBytes (halt_bytes stock state reason)
CanBeSent (Break time number) = IsNanos time × (number < 2 ^ 64)
