-- How a packet is read: the header, then the blocks one after another (MoldUDP64 1.00, Downstream Packet). That this is
-- the spelling read back is proved of the decoders.
use Rattle.std.specs.Prelude.{ℕ, ◌==◌, nat_le, List, length, drop, Option, Some, None, if◌then◌else◌}
use Rattle.hx_units.specs.Fields.{number_at, text_at}
use Rattle.hx_mold.specs.declared.packet.MoldPacket.{MoldPacket}
use Rattle.hx_mold.specs.declared.packet.MoldPacket.TheVariants as mold
use Rattle.hx_mold.specs.declared.request.Request.{Request}
use Rattle.hx_mold.specs.Packets.{header_size, end_count}
use Rattle.hx_mold.specs.Counting.{is_whole, messages_in}

-- the packet, if nothing follows its header
abbrev pub if_bare : (rest : List ℕ) → MoldPacket → Option MoldPacket
if_bare rest packet = if length rest == 0 then Some packet else None

-- the packet of these fields and what follows them, none if there is none
abbrev pub packet_with : (session : List ℕ) → (sequence count : ℕ) → (rest : List ℕ)
    → Option MoldPacket
packet_with session sequence count rest =
    if count == 0 then if_bare rest (mold.Heartbeat session sequence)
    else if count == end_count then if_bare rest (mold.EndOfSession session sequence)
    else if is_whole count rest then Some (mold.Blocks session sequence (messages_in count rest))
    else None

-- the same of `size` bytes, which are none if they are fewer than a header's
abbrev pub packet_from : (size : ℕ) → (session : List ℕ) → (sequence count : ℕ) → (rest : List ℕ)
    → Option MoldPacket
packet_from size session sequence count rest =
    if nat_le header_size size then packet_with session sequence count rest else None

-- the packet that the bytes are, none if they are none
abbrev pub packet_of : List ℕ → Option MoldPacket
packet_of bytes =
    packet_from (length bytes) (text_at 0 10 bytes) (number_at 10 8 bytes) (number_at 18 2 bytes)
    (drop header_size bytes)

-- the request that the bytes are: any 20 bytes are one (MoldUDP64 1.00, Request Packet)
abbrev pub request_of : List ℕ → Option Request
request_of bytes =
    if length bytes == header_size
    then Some (record {
      session = text_at 0 10 bytes;
      sequence = number_at 10 8 bytes;
      count = number_at 18 2 bytes;
    })
    else None
