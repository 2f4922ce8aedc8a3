-- What a reader of the feed's packets knows (MoldUDP64 1.00, Downstream Packet), and what a
-- datagram does to it.
use Rattle.std.specs.Prelude.{ℕ, ◌+◌, ◌-◌, ◌^◌, suc, nat_lt, nat_le, ◌==◌, ◌&&◌, ◌||◌, if◌then◌else◌, Bool, true, false, bytes_eq, List, [], ◌∷◌, ◌++◌, length, map, max, min, replicate, Option, Some, None, option_map, slice_get, slice_set}
use Rattle.arrayvec.specs.ArrayVec.{ArrayVec}
use Rattle.hx_mold.specs.declared.packet.MoldPacket.{MoldPacket}
use Rattle.hx_mold.specs.declared.packet.MoldPacket.TheVariants as mold
use Rattle.hx_mold.specs.declared.request.Request.{Request}
use Rattle.hx_mold.specs.Packets.{end_count}
use Rattle.hx_mold.specs.Reading.{packet_of}

-- the bytes of the longest message of the feed (ITCH 5.0, Trade Message)
abbrev pub longest : ℕ
longest = 44

-- the number that no message has, so that the next message always has one
abbrev pub last_number : ℕ
last_number = 18446744073709551615

-- what a reader knows of a session
pub record Reading : Type 0 where
  pub session : List ℕ
  -- the number of the message that is handed out next
  pub next : ℕ
  -- the number after the last message that a packet announced
  pub delivered : ℕ
  -- whether the session's end was announced
  pub ended : Bool
  -- message number next + i, if it has come and was not handed out; the length never changes
  pub window : List (Option (List ℕ))

-- a reader of the session that has seen nothing, with `indices` slots
abbrev pub opening : (session : List ℕ) → (indices : ℕ) → Reading
opening session indices =
    record {
      session = session;
      next = 1;
      delivered = 1;
      ended = false;
      window = replicate indices None;
    }

-- ---- what a datagram does

-- messages as their bytes
abbrev pub slots : List (Option (ArrayVec ℕ)) → List (Option (List ℕ))
slots xs = map (λ x. option_map (λ m. m.items) x) xs

-- whether a slot of the window is there, and nothing in it
abbrev pub is_vacant : Option (Option (List ℕ)) → Bool
is_vacant (Some None) = true
is_vacant (Some (Some m)) = false
is_vacant None = false

-- the window with a message in a slot, if the slot is there and vacant
unfoldable pub filled : (slot : ℕ) → (message : List ℕ) → List (Option (List ℕ))
    → List (Option (List ℕ))
filled slot m window =
    if is_vacant (slice_get window slot) then slice_set window slot (Some m) else window

-- message n has come: it is stored if it was not handed out yet, has a slot, and is no longer than any message of the
-- feed
unfoldable pub placed : (n : ℕ) → (message : List ℕ) → Reading → Reading
placed n m r =
    if nat_lt n r.next || nat_lt longest (length m)
    then r
    else record r { window = filled (n - r.next) m r.window }

-- messages have come, the first of which has number n
unfoldable pub all_placed : (n : ℕ) → List (List ℕ) → Reading → Reading
all_placed n [] r = r
all_placed n (m ∷ ms) r = all_placed (n + 1) ms (placed n m r)

-- a packet announces that the next message after those that there are has number n
abbrev pub delivered_to : (n : ℕ) → Reading → Reading
delivered_to n r = record r { delivered = max r.delivered n }

-- a packet of the reader's session; none of a feed has so high a number that its messages could pass
-- the last one
abbrev pub comes : Reading → MoldPacket → Reading
comes r (mold.Blocks session n messages) =
    if nat_lt n (2 ^ 64 - end_count)
    then delivered_to (n + length messages) (all_placed n messages r)
    else r
comes r (mold.Heartbeat session n) = delivered_to n r
comes r (mold.EndOfSession session n) = record r { delivered = max r.delivered n; ended = true }

-- the session that a packet names
abbrev pub session_of : MoldPacket → List ℕ
session_of (mold.Blocks session n messages) = session
session_of (mold.Heartbeat session n) = session
session_of (mold.EndOfSession session n) = session

-- bytes that are no packet, and packets of other sessions, change nothing
abbrev pub packet_comes : Reading → Option MoldPacket → Reading
packet_comes r None = r
packet_comes r (Some p) = if bytes_eq (session_of p) r.session then comes r p else r

-- a datagram comes
unfoldable pub received : Reading → (datagram : List ℕ) → Reading
received r bytes = packet_comes r (packet_of bytes)

-- ---- what is handed out

-- the first message of the window, if it has come
abbrev pub first_retained : (next : ℕ) → List (Option (List ℕ)) → Option (List ℕ)
first_retained n [] = None
first_retained n (None ∷ window) = None
first_retained n (Some m ∷ window) = if n == last_number then None else Some m

-- the next message, if it has come
abbrev pub ready : Reading → Option (List ℕ)
ready r = first_retained r.next r.window

-- the window from its second slot on, with a vacant one at the end
abbrev pub vacated : List (Option (List ℕ)) → List (Option (List ℕ))
vacated [] = []
vacated (x ∷ xs) = xs ++ None ∷ []

-- the reading once its next message is handed out, and itself if that has not come
abbrev pub handed : Reading → Option (List ℕ) → Reading
handed r None = r
handed r (Some m) = record r { next = r.next + 1; window = vacated r.window }

-- ---- what is missing

-- the number of vacant slots at the front
abbrev pub gap : List (Option (List ℕ)) → ℕ
gap [] = 0
gap (None ∷ window) = suc (gap window)
gap (Some m ∷ window) = 0

-- the number of messages missing from the next one on, up to one that is stored, of those that were announced and have
-- a slot; a request counts up to a number of its own (MoldUDP64 1.00, Request Packet)
abbrev pub missing : Reading → ℕ
missing r = min (min (gap r.window) (r.delivered - r.next)) end_count

-- what is to be asked for
abbrev pub request_of : Reading → Option Request
request_of r =
    if missing r == 0
    then None
    else Some (record { session = r.session; sequence = r.next; count = missing r })

-- the session has ended, and all its messages were handed out
abbrev pub is_whole : Reading → Bool
is_whole r = r.ended && nat_le r.delivered r.next
