-- The packets of a stream (SoupBinTCP 3.00, Logical Packets).
use Rattle.std.specs.Prelude.{ℕ, ◌≡◌, ◌⊎◌, ◌+◌, ◌<◌, ◌≤◌, List, [], ◌∷◌, ◌++◌, length}
use Rattle.std.specs.List.{flat_map, All}
use Rattle.hx_units.specs.Fields.{number, spelled}
use Rattle.hx_soup.specs.declared.packet.SoupPacket.{SoupPacket}

-- the greatest length of a packet that the exchange takes and sends
abbrev pub longest : ℕ
longest = 1024

-- A packet in bytes: the count of what follows in 2 bytes, most significant byte first, the type, the payload
-- (SoupBinTCP 3.00, Logical Packets).
abbrev pub framed : (type : ℕ) → (payload : List ℕ) → List ℕ
framed kind payload = spelled 2 (length payload + 1) ++ kind ∷ payload

-- the bytes of a packet
abbrev pub packet_bytes : SoupPacket → List ℕ
packet_bytes p = framed p.kind p.payload.items

-- packets one after another
abbrev pub stream_of : List SoupPacket → List ℕ
stream_of packets = flat_map packet_bytes packets

-- The length of a packet, which counts its type and its payload, is 1 to the greatest (SoupBinTCP 3.00, Logical
-- Packets: Packet Length).
abbrev pub IsLength : ℕ → Type 0
IsLength n = (0 < n) × (n ≤ longest)

-- no packet has this length
abbrev pub IsBadLength : ℕ → Type 0
IsBadLength n = (n ≡ 0) ⊎ (longest < n)

-- which packets there are
abbrev pub IsPacket : SoupPacket → Type 0
IsPacket p = IsLength (length p.payload.items + 1)

-- Less than a whole packet, and no fault: at most one byte, or the length of a packet and fewer bytes than it counts.
abbrev pub IsUnfinished : List ℕ → Type 0
IsUnfinished [] = Unit {0}
IsUnfinished (a ∷ []) = a < 256
IsUnfinished (a ∷ b ∷ bytes) = IsLength (number (a ∷ b ∷ [])) × (length bytes < number (a ∷ b ∷ []))

-- A stream that begins with a whole packet.
pub record HasPacket (stream : List ℕ) : Type 0 where
  pub packet : SoupPacket
  pub more : List ℕ
  pub whole : stream ≡ packet_bytes packet ++ more
  pub fits : IsPacket packet

-- A stream without a fault: these packets, then less than a whole one.
pub record Cuts (stream : List ℕ) (packets : List SoupPacket) (rest : List ℕ) : Type 0 where
  pub whole : stream ≡ stream_of packets ++ rest
  pub each : All IsPacket packets
  pub unfinished : IsUnfinished rest

-- A stream with a fault: right after these packets comes a length that no packet has.
pub record HasFault (stream : List ℕ) (packets : List SoupPacket) (bad : ℕ) : Type 0 where
  pub high : ℕ
  pub low : ℕ
  pub more : List ℕ
  pub whole : stream ≡ stream_of packets ++ high ∷ low ∷ more
  pub each : All IsPacket packets
  pub is : bad ≡ number (high ∷ low ∷ [])
  pub is_bad : IsBadLength bad
