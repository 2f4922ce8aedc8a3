-- Numbered messages in packets, and the answer to a request (MoldUDP64 1.00, Downstream Packet and Request Packet).
use Rattle.std.specs.Prelude.{ℕ, zero, suc, ◌≡◌, ◌+◌, ◌-◌, ◌<◌, ◌≤◌, List, [], ◌∷◌, ◌++◌, length, take, drop, ◌⊎◌, ◌≢◌, Option, Some, None, slice_index_or, if◌then◌else◌, nat_le}
use Rattle.hx_mold.specs.declared.packet.MoldPacket.TheVariants as mold
use Rattle.hx_mold.specs.declared.request.Request.{Request}
use Rattle.hx_mold.specs.Packets.{room, blocks, SpellsPacket}

-- a list that may have grown
abbrev pub Grows : (old new : List (List ℕ)) → Type 0
Grows old new = (more : List (List ℕ)) × (new ≡ old ++ more)

-- The longest front of the messages whose blocks fit into a packet.
pub record IsFront (front messages : List (List ℕ)) : Type 0 where
  pub rest : List (List ℕ)
  pub splits : messages ≡ front ++ rest
  pub fits : length (blocks front) ≤ room
  pub longest : (others more : List (List ℕ)) → messages ≡ others ++ more
      → length (blocks others) ≤ room → length others ≤ length front

-- The messages are cut into these packets, the first message having this number: no packet if there is no message; else
-- a packet of the longest front that fits, then the packets of the rest.
abbrev pub CutsInto : (session : List ℕ) → (first : ℕ) → (messages packets : List (List ℕ)) → Type 0
CutsInto session first messages [] = messages ≡ []
CutsInto session first messages (p ∷ packets) =
    (front : List (List ℕ)) × (rest : List (List ℕ)) × (messages ≡ front ++ rest)
    × (0 < length front) × IsFront front messages × SpellsPacket p (mold.Blocks session first front)
    × CutsInto session (first + length front) rest packets

-- the message of a number, counted from 1 (MoldUDP64 1.00, Downstream Packet: Sequence Number)
abbrev pub message_at : (number : ℕ) → List (List ℕ) → Option (List ℕ)
message_at zero messages = None
message_at (suc k) messages =
    if nat_le (suc k) (length messages) then Some (slice_index_or messages k []) else None

-- the messages that are asked for, at most `most` from the first number on (MoldUDP64 1.00, Request Packet)
abbrev pub wanted : (first most : ℕ) → List (List ℕ) → List (List ℕ)
wanted n most messages = take most (drop (n - 1) messages)

-- the packet of the longest front of the messages that are asked for, and how many it has
pub record Gathers (session : List ℕ) (n most : ℕ) (messages : List (List ℕ)) (bytes : List ℕ)
    (count : ℕ) : Type 0 where
  pub front : List (List ℕ)
  pub is_front : IsFront front (wanted n most messages)
  pub some : 0 < length front
  pub bytes_are : SpellsPacket bytes (mold.Blocks session n front)
  pub count_is : count ≡ length front

-- no message is asked for, or none that is there
abbrev pub NoneThere : (first most : ℕ) → List (List ℕ) → Type 0
NoneThere n most messages = (n ≡ 0) ⊎ (most ≡ 0) ⊎ (length messages < n)

-- the answer to a request: none for another session, for number 0, for count 0, or for a number that is
-- not there yet
abbrev pub Answers : List ℕ → Request → List (List ℕ) → Option (List ℕ) → Type 0
Answers session r messages None = (r.session ≢ session) ⊎ NoneThere r.sequence r.count messages
Answers session r messages (Some bytes) =
    (r.session ≡ session) × (0 < r.sequence) × (count : ℕ)
    × Gathers session r.sequence r.count messages bytes count
