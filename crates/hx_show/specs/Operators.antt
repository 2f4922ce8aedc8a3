-- What the operator does, in words.
use Rattle.std.specs.Prelude.{ℕ, List, [], ◌∷◌, codes}
use Rattle.hx_rules.specs.declared.event.Event.{Event}
use Rattle.hx_rules.specs.declared.event.Event.TheVariants.{Message, Tick, Hours, Halt, Break}
use Rattle.hx_show.specs.declared.label.Label.TheVariants as label
use Rattle.hx_show.specs.declared.part.Part.TheVariants.{Stock, Reason, Letter, Number}
use Rattle.hx_show.specs.Parts.{message_words}

-- a message that cannot be read
abbrev pub unreadable_message : List ℕ
unreadable_message = codes "unreadable message"

-- an event of the operator; no event of a member is one
abbrev pub event_message : Event → List ℕ
event_message (Tick time) = message_words (codes "Tick") []
event_message (Hours time code) =
    message_words (codes "Hours") (Letter label.HoursEvent code ∷ [])
event_message (Halt time stock state reason) =
    message_words (codes "Halt")
    (Stock stock ∷ Letter label.TradingState state ∷ Reason reason ∷ [])
event_message (Break time number) =
    message_words (codes "Break") (Number label.MatchNumber number ∷ [])
event_message (Message member time bytes) = unreadable_message
