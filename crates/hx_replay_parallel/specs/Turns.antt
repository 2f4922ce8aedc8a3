-- Turns: lines on their way from the thread that reads them to the one that applies them, and their output on the way
-- back.
use Rattle.std.specs.Prelude.{◌≡◌, ℕ, ◌+◌, ◌^◌, ◌≤◌, List, [], ◌∷◌, ◌++◌, length}
use Rattle.std.specs.List.{flat_map}
use Rattle.hx_rules.specs.declared.event.Event.{Event}
use Rattle.hx_replay.specs.declared.fault.TapeError.{TapeError}
use Rattle.hx_replay_parallel.specs.declared.batch.Batch.{Batch}
use Rattle.hx_tape_lines.specs.Text.{Entry}
use Rattle.hx_replay.specs.Run.{Progress}
use Rattle.hx_replay_parallel.specs.Ahead.{AreOf, AppliesAll, FailsAmong}

-- the events of turns, one turn's after another's
abbrev pub events_of : List Batch → List Event
events_of turns = flat_map (λ t. t.ahead) turns

-- their output
abbrev pub output_of : List Batch → List ℕ
output_of turns = flat_map (λ t. t.outputs) turns

-- After these turns this one may be sent to be applied: its events are those of entries that say something, and with
-- all before they are few.
pub record MayFollow (before : List Batch) (turn : Batch) : Type 0 where
  pub entries : List Entry
  pub are : AreOf entries turn.ahead
  pub few : length (events_of before) + length turn.ahead ≤ 2 ^ 45

-- the events of these turns were applied, and the output of these others is their output text
abbrev pub AppliesTurns : Progress → Progress → List Batch → List Batch → Type 0
AppliesTurns old new applied outputs =
    (entries : List Entry) → AreOf entries (events_of applied)
    → AppliesAll old new entries (output_of outputs)

-- The turns before the last one were applied; of the last one, the events before one that fails were applied, and
-- except when out of memory this is their output text.
pub record FailsInTurns (old : Progress) (applied outputs : List Batch) (output : List ℕ)
    (e : TapeError) : Type 0 where
  pub before : List Batch
  pub last : Batch
  pub applied_are : applied ≡ before ++ last ∷ []
  pub at : Progress
  pub applies : AppliesTurns old at before outputs
  pub fails : (entries : List Entry) → AreOf entries last.ahead → FailsAmong at entries output e
