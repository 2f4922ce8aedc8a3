-- What the nodes of an etcd were asked, and what became of that.
use Rattle.std.specs.Prelude.{◌≡◌, ◌≢◌, Bool, true, ℕ, zero, suc, List, ◌∷◌, ◌++◌, map, slice_index, Result, Ok, Err}
use Rattle.std.specs.List.{AllByRecursion}
use Rattle.hx_fenced_log.specs.declared.log.error.LogError.{LogError}
use Rattle.hx_fenced_log.specs.declared.log.error.LogError.TheVariants.{Taken, Gap, Unknown, Unreachable, NoRecord, Trimmed, BadCopy, NoMemory}
use Rattle.hx_etcd.specs.declared.reported.Answer.{Answer}
use Rattle.hx_etcd_log.specs.declared.nodes.AskError.{AskError}
use Rattle.hx_etcd_log.specs.declared.nodes.AskError.TheVariants as fault
use Rattle.hx_etcd_log.specs.Notes.{Note}

-- an answer came; or no byte of the request was sent; or some may have been, and no answer came
pub data Outcome : Type 0 where
  Answered : (status : ℕ) → (body : List ℕ) → Outcome
  Unsent : Outcome
  Lost : Outcome

-- a node was asked
pub record Ask : Type 0 where
  pub node : ℕ
  pub request : List ℕ
  pub outcome : Outcome

abbrev pub outcome_of : Result Answer AskError → Outcome
outcome_of (Ok answer) = Answered answer.status answer.body.items
outcome_of (Err fault.Unsent) = Unsent
outcome_of (Err fault.Lost) = Lost

-- ---- notes

-- an outcome as it was noted: its kind, and its numbers and its text
abbrev pub outcome_noted : (kind : ℕ) → (status : ℕ) → (body : List ℕ) → Outcome
outcome_noted zero status body = Answered status body
outcome_noted (suc zero) status body = Unsent
outcome_noted (suc (suc other)) status body = Lost

abbrev pub ask_of : Note → Ask
ask_of (numbers, request, body) = record {
  node = slice_index numbers 0;
  request = request;
  outcome = outcome_noted (slice_index numbers 1) (slice_index numbers 2) body;
}

-- the asks that were noted, the newest first
abbrev pub asks_in : List Note → List Ask
asks_in notes = map ask_of notes

-- a node was asked this, and its answer is such a one
pub record Tells (request : List ℕ) (P : Answer → Type 0) (a : Ask) : Type 0 where
  pub asked : a.request ≡ request
  pub answer : Answer
  pub gave : a.outcome ≡ Answered answer.status answer.body.items
  pub says : P answer

-- ---- what is asked from a moment on

abbrev pub IsUnsent : Ask → Type 0
IsUnsent a = a.outcome ≡ Unsent

-- the node may have taken the request
abbrev pub MayBeTaken : Ask → Type 0
MayBeTaken a = a.outcome ≢ Unsent

-- each ask since then is such a one
pub record EachSince (P : Ask → Type 0) (before after : List Ask) : Type 0 where
  pub asks : List Ask
  pub is : after ≡ asks ++ before
  pub each : AllByRecursion P asks

-- one of the asks since then is such a one
pub record OneSince (P : Ask → Type 0) (before after : List Ask) : Type 0 where
  pub newer : List Ask
  pub ask : Ask
  pub older : List Ask
  pub is : after ≡ newer ++ (ask ∷ (older ++ before))
  pub holds : P ask

-- why one ask reports nothing
abbrev pub IsMissed : (before after : List Ask) → AskError → Type 0
IsMissed before after fault.Unsent = EachSince IsUnsent before after
IsMissed before after fault.Lost = OneSince MayBeTaken before after

-- whether some try may be taken, once one more reports nothing
abbrev pub lost_after : (is_lost : Bool) → AskError → Bool
lost_after is_lost fault.Unsent = is_lost
lost_after is_lost fault.Lost = true

-- why several report nothing: without memory, none was made
abbrev pub IsNotReported : (before after : List Ask) → LogError → Type 0
IsNotReported before after Taken = ⊥
IsNotReported before after Gap = ⊥
IsNotReported before after Unknown = OneSince MayBeTaken before after
IsNotReported before after Unreachable = EachSince IsUnsent before after
IsNotReported before after (NoRecord number) = ⊥
IsNotReported before after (Trimmed number) = ⊥
IsNotReported before after (BadCopy number) = ⊥
IsNotReported before after NoMemory = after ≡ before
