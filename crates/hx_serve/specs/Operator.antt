-- What is sent for the operator's lines.
use Rattle.std.specs.Prelude.{ℕ, ◌≡◌, List, [], ◌∷◌, ◌++◌, map, Option, Bool, true, false}
use Rattle.std.specs.List.{flat_map}
use Rattle.std.specs.Io.KnownBytes.{Consumes, IsAtEnd}
use Rattle.hx_units.specs.Letters.{line_feed}
use Rattle.hx_rules.specs.declared.event.Event.{Event}
use Rattle.hx_tape_lines.specs.Operators.{IsOperatorLine}

-- each line is the operator's line of the event at the same index
abbrev pub AreOperatorLines : List (List ℕ) → List Event → Type 0
AreOperatorLines [] [] = Unit {0}
AreOperatorLines [] (e ∷ es) = ⊥
AreOperatorLines (l ∷ ls) [] = ⊥
AreOperatorLines (l ∷ ls) (e ∷ es) = IsOperatorLine l e × AreOperatorLines ls es

-- the text of lines, each with its line feed
abbrev pub text_of : List (List ℕ) → List ℕ
text_of lines = flat_map (λ l. l ++ line_feed ∷ []) lines

-- a pass sent these events, in order, and nothing else
abbrev pub SendsAll : (old new : List (ℕ × Event)) → List Event → Type 0
SendsAll old new events =
    (more : List (ℕ × Event)) × (new ≡ old ++ more) × (map (λ x. x.1) more ≡ events)

-- The text is lines of the operator and a rest, and the events of the lines were sent.
pub record Conducts (text : List ℕ) (old new : List (ℕ × Event)) (rest : List ℕ) : Type 0 where
  pub lines : List (List ℕ)
  pub events : List Event
  pub are_lines : AreOperatorLines lines events
  pub text_is : text ≡ text_of lines ++ rest
  pub sends : SendsAll old new events

-- One read: if the input goes on, what it gave was added to what was pending, and the events of the lines that are
-- whole then were sent; else the input has ended, and nothing was pending.
abbrev pub ConductsOn :
    (r s : Option (List ℕ)) → (before after : List ℕ) → (old new : List (ℕ × Event)) → Bool → Type 0
ConductsOn r s before after old new true =
    (piece : List ℕ) × Consumes r s piece × Conducts (before ++ piece) old new after
ConductsOn r s before after old new false =
    Consumes r s [] × IsAtEnd s × (before ≡ []) × (new ≡ old)

-- One read that ended in a fault: the events of the lines before it were sent.
abbrev pub BreaksOff :
    (r s : Option (List ℕ)) → (before : List ℕ) → (old new : List (ℕ × Event)) → Type 0
BreaksOff r s before old new =
    (piece : List ℕ) × Consumes r s piece
    × (rest : List ℕ) × Conducts (before ++ piece) old new rest

-- All of the input was read, it is lines of the operator, and their events were sent.
abbrev pub ConductsAll : (r s : Option (List ℕ)) → (old new : List (ℕ × Event)) → Type 0
ConductsAll r s old new =
    (text : List ℕ) × Consumes r s text × IsAtEnd s × Conducts text old new []

-- What was read is lines of the operator and a rest, and the events of the lines were sent.
abbrev pub ConductsSome : (r s : Option (List ℕ)) → (old new : List (ℕ × Event)) → Type 0
ConductsSome r s old new =
    (text : List ℕ) × Consumes r s text × (rest : List ℕ) × Conducts text old new rest
