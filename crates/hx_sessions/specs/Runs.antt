-- Whole runs of a delivery.
use Rattle.std.specs.Prelude.{ℕ, ◌≡◌, ◌⊎◌, ◌-◌, List, [], ◌∷◌, ◌++◌, drop, Bool, true, false}
use Rattle.hx_soup.specs.Kinds.{sequenced_data, server_heartbeat, end_of_session}
use Rattle.hx_soup.specs.Packets.{framed}
use Rattle.hx_sessions.specs.declared.delivery.Turn.{Turn}
use Rattle.hx_sessions.specs.declared.delivery.Turn.TheVariants as turn
use Rattle.hx_sessions.specs.Deliveries.{Delivery, TurnGives}

-- what one turn is asked with: the replies from the next one on, whether the day has ended, and the time
pub record Asked : Type 0 where
  pub rows : List (List ℕ)
  pub ended : Bool
  pub now : ℕ

-- Turns one after another. Each is asked with those replies from the next one on that are there by then.
abbrev pub Runs : (replies : List (List ℕ)) → (old new : Delivery) → List Asked → List Turn → Type 0
Runs replies old new [] [] = new ≡ old
Runs replies old new [] (given ∷ turns) = ⊥
Runs replies old new (a ∷ asked) [] = ⊥
Runs replies old new (a ∷ asked) (given ∷ turns) =
    (between : Delivery) × (later : List (List ℕ))
    × (drop (old.next - 1) replies ≡ a.rows ++ later)
    × TurnGives old between a.rows a.ended a.now given × Runs replies between new asked turns

-- The first of the replies that are left goes out.
pub record IsReply (after : Bool) (left rest : List (List ℕ)) (bytes : List ℕ) : Type 0 where
  pub row : List ℕ
  pub first : left ≡ row ∷ rest
  pub bytes_are : bytes ≡ framed sequenced_data row
  pub goes_on : after ≡ false

-- A heartbeat goes out, and no reply.
pub record IsHeartbeat (after : Bool) (left rest : List (List ℕ)) (bytes : List ℕ) : Type 0 where
  pub same : rest ≡ left
  pub bytes_are : bytes ≡ framed server_heartbeat []
  pub goes_on : after ≡ false

-- The end of the session goes out, and no reply: the day has ended, and no reply is left.
pub record IsEnd (asked : Asked) (after : Bool) (left rest : List (List ℕ)) (bytes : List ℕ)
    : Type 0 where
  pub ended : asked.ended ≡ true
  pub none_left : asked.rows ≡ []
  pub same : rest ≡ left
  pub bytes_are : bytes ≡ framed end_of_session []
  pub is_over : after ≡ true

-- What a turn brings of the replies that are to go out. Only before the end of the session does anything go out.
abbrev pub Brings : Asked → (over after : Bool) → (left rest : List (List ℕ)) → Turn → Type 0
Brings asked over after left rest (turn.Frame frame) =
    (over ≡ false)
    × (IsReply after left rest frame.items ⊎ IsHeartbeat after left rest frame.items
    ⊎ IsEnd asked after left rest frame.items)
Brings asked over after left rest turn.Idle = (over ≡ false) × (after ≡ false) × (rest ≡ left)
Brings asked over after left rest turn.Over = (over ≡ true) × (after ≡ true) × (rest ≡ left)

-- The turns bring just these replies, each once and in order, with heartbeats between them and one end of the
-- session at most.
abbrev pub BringsAll : (over : Bool) → (replies : List (List ℕ)) → List Asked → List Turn → Type 0
BringsAll over replies [] [] = replies ≡ []
BringsAll over replies [] (given ∷ turns) = ⊥
BringsAll over replies (a ∷ asked) [] = ⊥
BringsAll over replies (a ∷ asked) (given ∷ turns) =
    (after : Bool) × (rest : List (List ℕ)) × Brings a over after replies rest given
    × BringsAll after rest asked turns
