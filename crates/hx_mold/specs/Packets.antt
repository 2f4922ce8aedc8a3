-- The packets and requests of MoldUDP64 1.00, and how they are spelled in bytes.
use Rattle.std.specs.Prelude.{ℕ, ◌≡◌, ◌^◌, ◌-◌, ◌<◌, List, ◌++◌, length}
use Rattle.std.specs.List.{flat_map, AllByRecursion}
use Rattle.hx_units.specs.Fields.{spelled}
use Rattle.hx_mold.specs.declared.packet.MoldPacket.{MoldPacket}
use Rattle.hx_mold.specs.declared.packet.MoldPacket.TheVariants as mold
use Rattle.hx_mold.specs.declared.request.Request.{Request}

-- ---- sizes

-- the bytes of a header: 10 of the session, 8 of the sequence number, 2 of the message count (MoldUDP64 1.00,
-- Downstream Packet)
abbrev pub header_size : ℕ
header_size = 20

-- the most bytes of a packet that the exchange sends
abbrev pub packet_size : ℕ
packet_size = 1400

-- the bytes of such a packet that its blocks may fill
abbrev pub room : ℕ
room = packet_size - header_size

-- the message count that says that the session has ended (MoldUDP64 1.00, End of Session)
abbrev pub end_count : ℕ
end_count = 65535

-- ---- what a packet is

-- a message in a packet: its length in 2 bytes, then its bytes (MoldUDP64 1.00, Message Block)
abbrev pub block : List ℕ → List ℕ
block message = spelled 2 (length message) ++ message

-- messages in a packet, one after another
abbrev pub blocks : List (List ℕ) → List ℕ
blocks messages = flat_map block messages

-- the first bytes of a packet: session, sequence number, message count (MoldUDP64 1.00, Downstream Packet)
abbrev pub header : (session : List ℕ) → (sequence count : ℕ) → List ℕ
header session sequence count = session ++ spelled 8 sequence ++ spelled 2 count

-- a packet of messages, the first of which has this number (MoldUDP64 1.00, Downstream Packet)
abbrev pub packet : (session : List ℕ) → (sequence : ℕ) → (messages : List (List ℕ)) → List ℕ
packet session sequence messages = header session sequence (length messages) ++ blocks messages

-- the bytes of a packet: a heartbeat has count 0, an end of session the greatest count, and neither has a block
-- (MoldUDP64 1.00, Heartbeats and End of Session)
abbrev pub packet_bytes : MoldPacket → List ℕ
packet_bytes (mold.Blocks session sequence messages) = packet session sequence messages
packet_bytes (mold.Heartbeat session next) = header session next 0
packet_bytes (mold.EndOfSession session next) = header session next end_count

-- the length of a message is a number of 2 bytes
abbrev pub IsShort : List ℕ → Type 0
IsShort message = length message < 2 ^ 16

-- a session is 10 bytes, a sequence number has 8
pub record IsHeader (session : List ℕ) (sequence : ℕ) : Type 0 where
  pub ten : length session ≡ 10
  pub fits : sequence < 2 ^ 64

-- a packet brings at least one message, and fewer than the count that ends a session
pub record AreMessages (messages : List (List ℕ)) : Type 0 where
  pub some : 0 < length messages
  pub few : length messages < end_count
  pub short : AllByRecursion IsShort messages

-- which packets there are
abbrev pub IsPacket : MoldPacket → Type 0
IsPacket (mold.Blocks session sequence messages) = IsHeader session sequence × AreMessages messages
IsPacket (mold.Heartbeat session next) = IsHeader session next
IsPacket (mold.EndOfSession session next) = IsHeader session next

-- these bytes spell this packet
abbrev pub SpellsPacket : List ℕ → MoldPacket → Type 0
SpellsPacket bytes p = IsPacket p × (bytes ≡ packet_bytes p)

-- a request is spelled as a header (MoldUDP64 1.00, Request Packet)
abbrev pub request_bytes : Request → List ℕ
request_bytes r = header r.session r.sequence r.count

-- which requests there are (MoldUDP64 1.00, Request Packet)
pub record IsRequest (r : Request) : Type 0 where
  pub session : length r.session ≡ 10
  pub sequence : r.sequence < 2 ^ 64
  pub count : r.count < 2 ^ 16

-- these bytes spell this request
abbrev pub SpellsRequest : List ℕ → Request → Type 0
SpellsRequest bytes r = IsRequest r × (bytes ≡ request_bytes r)
