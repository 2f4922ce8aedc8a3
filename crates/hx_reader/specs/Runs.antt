-- Whole runs of a reader: datagrams that come, and messages that are handed out, in any order.
use Rattle.std.specs.Prelude.{ℕ, ◌≡◌, ◌+◌, ◌-◌, ◌<◌, ◌≤◌, ◌≢◌, ◌⊎◌, slice_get, List, [], ◌∷◌, ◌++◌, length, true, Option, Some, None, false}
use Rattle.std.specs.Option.{option_to_list}
use Rattle.std.specs.List.{AllByRecursion}
use Rattle.hx_mold.specs.declared.packet.MoldPacket.{MoldPacket}
use Rattle.hx_mold.specs.declared.packet.MoldPacket.TheVariants as mold
use Rattle.hx_mold.specs.Reading.{packet_of}
use Rattle.hx_reader.specs.Readings.{Reading, opening, received, session_of, ready, handed, is_whole, is_vacant}

-- what happens to a reader. A datagram that is lost never comes; one that is repeated comes again
pub data Step : Type 0 where
  Comes : (bytes : List ℕ) → Step
  IsAsked : Step

-- the reading after a step
abbrev pub after : Reading → Step → Reading
after r (Comes bytes) = received r bytes
after r IsAsked = handed r (ready r)

-- what a step hands out
abbrev pub gives : Reading → Step → List (List ℕ)
gives r (Comes bytes) = []
gives r IsAsked = option_to_list (ready r)

-- the reading after these steps, and all that was handed out
abbrev pub after_all : Reading → List Step → Reading
after_all r [] = r
after_all r (s ∷ steps) = after_all (after r s) steps

abbrev pub given : Reading → List Step → List (List ℕ)
given r [] = []
given r (s ∷ steps) = gives r s ++ given (after r s) steps

-- ---- what is so of a feed

-- these messages stand in the feed, the first of them as its message n, counted from 1
abbrev pub StandsAt : (feed : List (List ℕ)) → (n : ℕ) → (messages : List (List ℕ)) → Type 0
StandsAt feed n messages =
    (before rest : List (List ℕ))
    × (feed ≡ before ++ messages ++ rest) × (n ≡ length before + 1)

-- what a packet of the session says is so of the feed: messages have the numbers that it says, a heartbeat's number is
-- at most one above the feed's length, and the session's end gives the length
abbrev pub IsSo : (feed : List (List ℕ)) → MoldPacket → Type 0
IsSo feed (mold.Blocks session n messages) = StandsAt feed n messages
IsSo feed (mold.Heartbeat session n) = n ≤ length feed + 1
IsSo feed (mold.EndOfSession session n) = n ≡ length feed + 1

-- a datagram, if it is a packet of the session, says what is so of the feed
abbrev pub TellsOf : (feed : List (List ℕ)) → (session : List ℕ) → Step → Type 0
TellsOf feed session IsAsked = Unit {0}
TellsOf feed session (Comes bytes) =
    (p : MoldPacket) → packet_of bytes ≡ Some p → session_of p ≡ session → IsSo feed p

-- the messages are a beginning of the feed
abbrev pub IsBeginning : List (List ℕ) → (feed : List (List ℕ)) → Type 0
IsBeginning xs feed = (rest : List (List ℕ)) × (xs ++ rest ≡ feed)

-- ---- the laws

-- Whatever is lost, repeated, reordered, malformed or of another session: what was handed out is a
-- beginning of the feed.
abbrev pub InOrder : Type 0
InOrder =
    (feed : List (List ℕ)) (session : List ℕ) (indices : ℕ) (steps : List Step)
    → AllByRecursion (TellsOf feed session) steps
    → IsBeginning (given (opening session indices) steps) feed

-- And if the reader says that it is whole, it is the whole feed.
abbrev pub Whole : Type 0
Whole =
    (feed : List (List ℕ)) (session : List ℕ) (indices : ℕ) (steps : List Step)
    → AllByRecursion (TellsOf feed session) steps
    → is_whole (after_all (opening session indices) steps) ≡ true
    → given (opening session indices) steps ≡ feed

-- message n would change nothing: it was handed out, or is stored, or has no slot
abbrev pub IsOld : Reading → (n : ℕ) → Type 0
IsOld r n = (n < r.next) ⊎ (is_vacant (slice_get r.window (n - r.next)) ≡ false)

-- so would these, the first of which has number n
abbrev pub AreOld : Reading → (n : ℕ) → List (List ℕ) → Type 0
AreOld r n [] = Unit {0}
AreOld r n (m ∷ messages) = IsOld r n × AreOld r (n + 1) messages

-- no packet, or one that brings nothing new
abbrev pub BringsNothing : Reading → Option MoldPacket → Type 0
BringsNothing r None = Unit {0}
BringsNothing r (Some (mold.Blocks session n messages)) =
    (session ≢ r.session) ⊎ (AreOld r n messages × (n + length messages ≤ r.delivered))
BringsNothing r (Some (mold.Heartbeat session n)) = (session ≢ r.session) ⊎ (n ≤ r.delivered)
BringsNothing r (Some (mold.EndOfSession session n)) =
    (session ≢ r.session) ⊎ ((r.ended ≡ true) × (n ≤ r.delivered))

-- Bytes that are no packet, packets of other sessions, and packets that bring nothing new change
-- nothing.
abbrev pub NothingNew : Type 0
NothingNew =
    (r : Reading) (bytes : List ℕ) → BringsNothing r (packet_of bytes) → received r bytes ≡ r
