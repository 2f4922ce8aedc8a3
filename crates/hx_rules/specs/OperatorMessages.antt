-- The operator's messages: one letter each, except for halts and breaks.
use Rattle.std.specs.Prelude.{ℕ, Bool, ◌==◌, if◌then◌else◌, List, [], ◌∷◌, ◌++◌, Option, Some, None}
use Rattle.std.specs.List.{list_any}
use Rattle.hx_units.specs.Fields.{is_message, byte_at, text_at, number_at, spelled}
use Rattle.hx_units.specs.declared.names.Symbol.{Symbol}
use Rattle.hx_rules.specs.declared.event.Event.{Event}
use Rattle.hx_rules.specs.declared.event.Event.TheVariants.{Tick, Hours, Halt, Break}
use Rattle.hx_rules.specs.Letters.{tick_letter, halt_letter, break_letter}
use Rattle.hx_rules.specs.Hours.{hours_codes}

-- ---- One letter

-- the event of a letter: K is a tick, and each code of the hours is itself (ITCH 5.0, System Event
-- Message); no other letter is one
abbrev pub event_of_letter : (time letter : ℕ) → Option Event
event_of_letter time letter =
    if letter == tick_letter then Some (Tick time)
    else (if list_any (λ code. code == letter) hours_codes then Some (Hours time letter)
    else None)

-- the event of bytes that are one letter
abbrev pub letter_event : (time : ℕ) → List ℕ → Option Event
letter_event time [] = None
letter_event time (letter ∷ []) = event_of_letter time letter
letter_event time (letter ∷ other ∷ more) = None

-- ---- A halt, 14 bytes of type H: the stock, the state and the reason

abbrev pub is_halt : List ℕ → Bool
is_halt bytes = is_message 14 halt_letter bytes

abbrev pub halt_of : (time : ℕ) → List ℕ → Event
halt_of time bytes =
    Halt time (record { 0 = text_at 1 8 bytes }) (byte_at 9 bytes) (text_at 10 4 bytes)

abbrev pub halt_bytes : Symbol → (state : ℕ) (reason : List ℕ) → List ℕ
halt_bytes stock state reason = (halt_letter ∷ []) ++ stock.0 ++ (state ∷ []) ++ reason

-- ---- A break, 9 bytes of type B: the match number

abbrev pub is_break : List ℕ → Bool
is_break bytes = is_message 9 break_letter bytes

abbrev pub break_of : (time : ℕ) → List ℕ → Event
break_of time bytes = Break time (number_at 1 8 bytes)

abbrev pub break_bytes : (number : ℕ) → List ℕ
break_bytes number = (break_letter ∷ []) ++ spelled 8 number

-- ---- Any message

-- the event of the operator's bytes
abbrev pub operator_event : (time : ℕ) → List ℕ → Option Event
operator_event time bytes =
    if is_halt bytes then Some (halt_of time bytes)
    else (if is_break bytes then Some (break_of time bytes)
    else letter_event time bytes)
