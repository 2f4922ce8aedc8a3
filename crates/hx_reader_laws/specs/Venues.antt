-- What a venue sends of its feed: the packets of its publisher, and the answers of its server of
-- requests. Its messages are `messages_of`, as the contracts of both see them.
use Rattle.std.specs.Prelude.{ℕ, ◌≡◌, ◌≤◌, ◌+◌, ◌⊎◌, List, length, Option, Some}
use Rattle.hx_mold.specs.declared.packet.MoldPacket.TheVariants as mold
use Rattle.hx_mold.specs.Packets.{SpellsPacket}
use Rattle.hx_mold.specs.Fronts.{Grows}
use Rattle.hx_retransmit.specs.declared.publisher.Publisher.{Publisher}
use Rattle.hx_retransmit.specs.Turns.{TurnGives, Serves}
use Rattle.hx_reader.specs.Runs.{Comes, TellsOf}

-- A publisher of this feed: the messages that are there are a beginning of the feed, and those that
-- it has sent are some of them.
pub record Publishes (M : Type 0) (messages_of : M → List (List ℕ)) (feed : List (List ℕ))
    (session : List ℕ) (p : Publisher M) : Type 0 where
  pub of_session : p.session ≡ session
  pub known : Grows (messages_of p.messages) feed
  pub sent : p.sent ≤ length (messages_of p.messages)

-- One turn of such a publisher, as `Publisher::turn` promises it; what is there then is a beginning
-- of the feed.
pub record IsTurn (M : Type 0) (messages_of : M → List (List ℕ)) (feed : List (List ℕ))
    (old new : Publisher M) (packet : Option (List ℕ)) : Type 0 where
  pub now : ℕ
  pub grows : Grows (messages_of old.messages) (messages_of new.messages)
  pub known : Grows (messages_of new.messages) feed
  pub session : new.session ≡ old.session
  pub gives : TurnGives M (messages_of new.messages) old new now packet

-- a publisher that has sent nothing is one of this feed, and so is one that learns of messages, or
-- takes a turn
pub record StaysPublisher (M : Type 0) : Type 0 where
  pub opened :
      (messages_of : M → List (List ℕ)) (feed : List (List ℕ)) (session : List ℕ)
      (p : Publisher M)
      → p.sent ≡ 0 → p.session ≡ session → Grows (messages_of p.messages) feed
      → Publishes M messages_of feed session p
  pub learned :
      (messages_of : M → List (List ℕ)) (feed : List (List ℕ)) (session : List ℕ)
      (old new : Publisher M)
      → Publishes M messages_of feed session old
      → new.sent ≡ old.sent → new.session ≡ old.session
      → Grows (messages_of old.messages) (messages_of new.messages)
      → Grows (messages_of new.messages) feed
      → Publishes M messages_of feed session new
  pub turned :
      (messages_of : M → List (List ℕ)) (feed : List (List ℕ)) (session : List ℕ)
      (old new : Publisher M) (packet : Option (List ℕ))
      → Publishes M messages_of feed session old
      → IsTurn M messages_of feed old new packet
      → Publishes M messages_of feed session new

-- A turn of such a publisher gives this datagram.
pub record IsTurns (M : Type 0) (messages_of : M → List (List ℕ)) (feed : List (List ℕ))
    (session datagram : List ℕ) : Type 0 where
  pub old : Publisher M
  pub new : Publisher M
  pub publishes : Publishes M messages_of feed session old
  pub turn : IsTurn M messages_of feed old new (Some datagram)

-- `Server::answer` gives this datagram, to some request, of messages that are a beginning of the
-- feed.
pub record IsAnswers (feed : List (List ℕ)) (session datagram : List ℕ) : Type 0 where
  pub request : List ℕ
  pub messages : List (List ℕ)
  pub known : Grows messages feed
  pub gives : Serves session request messages (Some datagram)

-- `Publisher::end` gives this datagram, if all messages of the feed are sent.
pub record IsEnds (M : Type 0) (feed : List (List ℕ)) (session datagram : List ℕ) : Type 0 where
  pub publisher : Publisher M
  pub session_is : publisher.session ≡ session
  pub all : publisher.sent ≡ length feed
  pub gives : SpellsPacket datagram (mold.EndOfSession publisher.session (publisher.sent + 1))

-- the venue sends this datagram
abbrev pub IsVenues : (M : Type 0) → (messages_of : M → List (List ℕ))
    → (feed : List (List ℕ)) → (session datagram : List ℕ) → Type 0
IsVenues M messages_of feed session datagram =
    IsTurns M messages_of feed session datagram
    ⊎ (IsAnswers feed session datagram ⊎ IsEnds M feed session datagram)

-- What a venue sends says what is so of its feed.
abbrev pub PacketsCarry : (M : Type 0) → Type 0
PacketsCarry M =
    (messages_of : M → List (List ℕ)) (feed : List (List ℕ)) (session datagram : List ℕ)
    → IsVenues M messages_of feed session datagram
    → TellsOf feed session (Comes datagram)
