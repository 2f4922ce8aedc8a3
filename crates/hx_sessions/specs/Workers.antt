-- What the two directions of a session leave.
use Rattle.std.specs.Prelude.{ℕ, ◌≡◌, ◌⊎◌, List, [], ◌++◌, Option, Some, None, Bool, true, false, Result, Ok, Err}
use Rattle.std.specs.Io.KnownBytes.{Consumes, IsAtEnd}
use mathlib.Core.List.{IsPrefix}
use Rattle.hx_soup.specs.declared.packet.SoupPacket.{SoupPacket}
use Rattle.hx_soup.specs.Packets.{Cuts}
use Rattle.hx_sessions.specs.Deliveries.{Delivery}
use Rattle.hx_rules.specs.declared.event.Event.{Event}
use Rattle.hx_sessions.specs.declared.ending.Ended.{Ended}
use Rattle.hx_sessions.specs.declared.ending.Ended.TheVariants as ended
use Rattle.hx_sessions.specs.declared.ending.Fault.{Fault}
use Rattle.hx_sessions.specs.declared.ending.Fault.TheVariants as fault
use Rattle.hx_sessions.specs.declared.ending.Stop.{Stop}
use Rattle.hx_sessions.specs.declared.ending.Stop.TheVariants as stop
use Rattle.hx_sessions.specs.Asked.{asked, HasLogout, IsStream, AreMessages, Submits}
use Rattle.hx_sessions.specs.Frames.{Sent, SentSome}

-- How both ended, as one: a fault before an ending, the inbound fault first, and the end of the day before the other
-- endings. If neither ended by itself, there was no session, as when out of memory.
abbrev pub both_of : (inbound outbound : Stop) → Result Ended Fault
both_of (stop.Faulted f) out = Err f
both_of (stop.Ended e) (stop.Faulted f) = Err f
both_of (stop.Ended e) (stop.Ended x) = Ok x
both_of (stop.Ended e) stop.PeerStopped = Ok e
both_of stop.PeerStopped (stop.Faulted f) = Err f
both_of stop.PeerStopped (stop.Ended x) = Ok x
both_of stop.PeerStopped stop.PeerStopped = Err fault.NoMemory

-- ---- what goes out

-- After a round that goes on: if no reply went out, none is left.
abbrev pub SentRound :
    ℕ → List (List ℕ) → Delivery → Option (List ℕ) → Option (List ℕ) → Bool → Type 0
SentRound first replies d old new moved =
    (d.over ≡ false) × (rest : List (List ℕ)) × Sent first replies rest d old new
    × (moved ≡ false → rest ≡ [])

-- By why it stopped: some replies may be left; none is left at the end of the day, which comes only once it is past;
-- and if the output failed, a beginning of the bytes was written.
abbrev pub SentUntil :
    (past : Bool) → ℕ → List (List ℕ) → Delivery → Option (List ℕ) → Option (List ℕ) → Stop
    → Type 0
SentUntil past first replies d old new stop.PeerStopped =
    (d.over ≡ false) × (rest : List (List ℕ)) × Sent first replies rest d old new
SentUntil past first replies d old new (stop.Ended e) =
    (e ≡ ended.DayEnd) × (d.over ≡ true) × (past ≡ true) × Sent first replies [] d old new
SentUntil past first replies d old new (stop.Faulted f) =
    (rest : List (List ℕ))
    × ((Sent first replies rest d old new × (d.over ≡ false))
    ⊎ ((f ≡ fault.Write) × (d.over ≡ true → past ≡ true)
    × SentSome first replies rest d old new))

-- Whatever went out before: these replies, which were the next ones, have gone out as well.
abbrev pub SendsMore : List (List ℕ) → (old new : Delivery) → (before after : List ℕ) → Type 0
SendsMore rows old new before after =
    (first : ℕ) (replies rest_after : List (List ℕ)) (start : Option (List ℕ))
    → Sent first replies (rows ++ rest_after) old start (Some before)
    → Sent first replies rest_after new start (Some after)

-- The same, until it stops: some of them have gone out.
abbrev pub StopsIn : List (List ℕ) → (old new : Delivery) → (before after : List ℕ) → Stop → Type 0
StopsIn rows old new before after s =
    (past : Bool) (first : ℕ) (replies rest_after : List (List ℕ)) (start : Option (List ℕ))
    → Sent first replies (rows ++ rest_after) old start (Some before)
    → SentUntil past first replies new start (Some after) s

-- ---- what comes in

-- So far all packets were acted on, and the session goes on: what was submitted is what they ask, whatever follows.
pub record Acting (packets : List SoupPacket) (done : List (List ℕ)) : Type 0 where
  pub asks : (later : List SoupPacket) → asked (packets ++ later) ≡ done ++ asked later

-- A logout or a fault among the packets: what was submitted is all that they ask, whatever follows.
pub record Closed (packets : List SoupPacket) (done : List (List ℕ)) : Type 0 where
  pub asks : (later : List SoupPacket) → asked (packets ++ later) ≡ done

-- A submit was refused: what was submitted is a beginning of what they ask.
pub record Cut (packets : List SoupPacket) (done : List (List ℕ)) : Type 0 where
  pub asks : (later : List SoupPacket) → IsPrefix done (asked (packets ++ later))

abbrev pub ActedUntil : List SoupPacket → List (List ℕ) → Stop → Type 0
ActedUntil packets done stop.PeerStopped = ⊥
ActedUntil packets done (stop.Ended e) =
    (e ≡ ended.Logout) × HasLogout packets × Closed packets done
ActedUntil packets done (stop.Faulted f) =
    ((f ≡ fault.Framing) × Closed packets done) ⊎ Cut packets done

-- After the texts that packets ask to submit, either nothing is wrong so far, or it stops.
abbrev pub AsksUntil : List SoupPacket → List (List ℕ) → Option Stop → Type 0
AsksUntil packets texts None = Acting packets texts
AsksUntil packets texts (Some s) = ActedUntil packets texts s

-- The events are messages of the member with the texts that the packets ask to submit.
abbrev pub Gathers : ℕ → List SoupPacket → List Event → Option Stop → Type 0
Gathers member packets events stop =
    (texts : List (List ℕ)) × AreMessages member events texts × AsksUntil packets texts stop

abbrev pub Acted :
    ℕ → List (ℕ × Event) → List (ℕ × Event) → List SoupPacket → Result (Unit {0}) Stop → Type 0
Acted member old new packets (Ok u) =
    (done : List (List ℕ)) × Submits member old new done × Acting packets done
Acted member old new packets (Err s) =
    (done : List (List ℕ)) × Submits member old new done × ActedUntil packets done s

-- So far: the packets of all bytes read, and what was submitted for them.
pub record Receiving (member : ℕ) (old new : Option (List ℕ)) (framer : Option (List ℕ))
    (before after : List (ℕ × Event)) : Type 0 where
  pub bytes : List ℕ
  pub packets : List SoupPacket
  pub rest : List ℕ
  pub done : List (List ℕ)
  pub read : Consumes old new bytes
  pub retained : framer ≡ Some rest
  pub cuts : Cuts bytes packets rest
  pub submits : Submits member before after done
  pub acting : Acting packets done

-- All that the packets ask was submitted; if the client has logged out, a logout is among them; if the input has ended,
-- all bytes were read; a refusal cuts the rest off.
abbrev pub Why : Option (List ℕ) → List SoupPacket → List (List ℕ) → Stop → Type 0
Why left packets done stop.PeerStopped = done ≡ asked packets
Why left packets done (stop.Ended ended.Logout) = (done ≡ asked packets) × HasLogout packets
Why left packets done (stop.Ended ended.ReaderEnd) = (done ≡ asked packets) × IsAtEnd left
Why left packets done (stop.Ended ended.DayEnd) = ⊥
Why left packets done (stop.Faulted f) = IsPrefix done (asked packets)

-- What was taken in when it stops. `lost` are bytes that were read and not taken apart when out of memory.
pub record Received (member : ℕ) (old new : Option (List ℕ)) (before after : List (ℕ × Event))
    (s : Stop) : Type 0 where
  pub bytes : List ℕ
  pub lost : List ℕ
  pub packets : List SoupPacket
  pub done : List (List ℕ)
  pub read : Consumes old new (bytes ++ lost)
  pub none_lost : (lost ≡ []) ⊎ (s ≡ stop.Faulted fault.NoMemory)
  pub stream : IsStream bytes packets
  pub submits : Submits member before after done
  pub why : Why new packets done s

-- Whatever was taken in before: a turn takes in more, and then it goes on or stops so.
abbrev pub TakesMore :
    ℕ → (old new : Option (List ℕ)) → (framer after : Option (List ℕ))
    → (before sent : List (ℕ × Event)) → Result (Unit {0}) Stop → Type 0
TakesMore member old new framer after before sent (Ok u) =
    (start : Option (List ℕ)) (first : List (ℕ × Event))
    → Receiving member start old framer first before → Receiving member start new after first sent
TakesMore member old new framer after before sent (Err s) =
    (start : Option (List ℕ)) (first : List (ℕ × Event))
    → Receiving member start old framer first before → Received member start new first sent s

-- What becomes of a piece of the stream: the packets that are whole with it are acted on.
abbrev pub Takes :
    ℕ → Option (List ℕ) → Option (List ℕ) → List ℕ → List (ℕ × Event) → List (ℕ × Event)
    → Result (Unit {0}) Stop → Type 0
Takes member old new piece before after (Ok u) =
    (retained : List ℕ) × (rest : List ℕ) × (packets : List SoupPacket) × (done : List (List ℕ))
    × (old ≡ Some retained) × (new ≡ Some rest) × Cuts (retained ++ piece) packets rest
    × Submits member before after done × Acting packets done
Takes member old new piece before after (Err s) = (retained : List ℕ) × (old ≡ Some retained)
    × (((packets : List SoupPacket) × (done : List (List ℕ)) × IsStream (retained ++ piece) packets
    × Submits member before after done × ActedUntil packets done s)
    ⊎ ((s ≡ stop.Faulted fault.NoMemory) × (after ≡ before)))
