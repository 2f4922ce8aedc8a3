-- What goes out to a client, one turn after another (SoupBinTCP 3.00, Logical Packets Sent by a SoupBinTCP
-- Server).
use Rattle.std.specs.Prelude.{ℕ, ◌≡◌, ◌⊎◌, ◌+◌, ◌-◌, List, [], ◌∷◌, Bool, true, false, MatchBool}
use Rattle.hx_units.specs.Heartbeats.{is_due}
use Rattle.hx_units.specs.Limits.{silence}
use Rattle.hx_soup.specs.Kinds.{sequenced_data, server_heartbeat, end_of_session}
use Rattle.hx_soup.specs.Packets.{framed}
use Rattle.hx_sessions.specs.declared.delivery.Turn.{Turn}
use Rattle.hx_sessions.specs.declared.delivery.Turn.TheVariants as turn

pub record Delivery : Type 0 where
  -- the number of the next reply
  pub next : ℕ
  -- the time of the last packet, in nanoseconds
  pub last : ℕ
  -- whether the end of the session has gone out
  pub over : Bool

-- what is left of a second since the last packet, unless a heartbeat is due
abbrev pub left_unless : (due : Bool) → (last now : ℕ) → ℕ
left_unless true last now = 0
left_unless false last now = (last + silence) - now

-- the nanoseconds to the next heartbeat
abbrev pub until_heartbeat : (last now : ℕ) → ℕ
until_heartbeat last now = left_unless (is_due last now) last now

-- the turn gives the packet of this type and payload
abbrev pub IsFrame : (type : ℕ) → (payload : List ℕ) → Turn → Type 0
IsFrame kind payload (turn.Frame frame) = frame.items ≡ framed kind payload
IsFrame kind payload turn.Idle = ⊥
IsFrame kind payload turn.Over = ⊥

-- The next reply goes out (SoupBinTCP 3.00, Sequenced Data Packet).
pub record SendsReply (old new : Delivery) (row : List ℕ) (now : ℕ) (given : Turn) : Type 0 where
  pub is_frame : IsFrame sequenced_data row given
  pub is : new ≡ record { next = old.next + 1; last = now; over = false }

-- The end of the session goes out, and nothing from then on (SoupBinTCP 3.00, End of Session Packet).
pub record SendsEnd (old new : Delivery) (now : ℕ) (given : Turn) : Type 0 where
  pub is_frame : IsFrame end_of_session [] given
  pub is : new ≡ record { next = old.next; last = now; over = true }

-- A heartbeat is due and goes out (SoupBinTCP 3.00, Server Heartbeat Packet).
pub record SendsHeartbeat (old new : Delivery) (now : ℕ) (given : Turn) : Type 0 where
  pub due : is_due old.last now ≡ true
  pub is_frame : IsFrame server_heartbeat [] given
  pub is : new ≡ record { next = old.next; last = now; over = false }

-- No heartbeat is due, and nothing goes out.
pub record SendsNothing (old new : Delivery) (now : ℕ) (given : Turn) : Type 0 where
  pub none_due : is_due old.last now ≡ false
  pub is_idle : given ≡ turn.Idle
  pub is : new ≡ old

-- by the replies that are there from the next one on, and whether the day has ended
abbrev pub Goes : (old new : Delivery) → (rows : List (List ℕ)) → (ended : Bool) → (now : ℕ)
    → Turn → Type 0
Goes old new (row ∷ rows) ended now given = SendsReply old new row now given
Goes old new [] true now given = SendsEnd old new now given
Goes old new [] false now given = SendsHeartbeat old new now given ⊎ SendsNothing old new now given

-- One turn. After the end of the session it is over for good.
abbrev pub TurnGives : (old new : Delivery) → (rows : List (List ℕ)) → (ended : Bool) → (now : ℕ)
    → Turn → Type 0
TurnGives old new rows ended now given =
    MatchBool old.over ((given ≡ turn.Over) × (new ≡ old)) (Goes old new rows ended now given)
