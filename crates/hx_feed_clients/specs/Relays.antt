-- What a relay retains of a feed (MoldUDP64 1.00, Downstream Packet and Request Packet).
use Rattle.std.specs.Prelude.{◌≡◌, ℕ, zero, suc, List, [], ◌∷◌, ◌++◌, true}
use Rattle.std.specs.List.{AllByRecursion}
use Rattle.hx_reader.specs.Readings.{opening, is_whole}
use Rattle.hx_reader.specs.Runs.{Step, Comes, IsAsked, after_all, given, TellsOf, IsBeginning}
use Rattle.hx_feed_clients.specs.declared.relaying.relay.Relay.{Relay}

-- a reader is asked for its next message n times
abbrev pub asks : ℕ → List Step
asks zero = []
asks (suc n) = asks n ++ IsAsked ∷ []

-- After these steps of its reader a relay has retained the messages that they handed out.
pub record HasRead (session : List ℕ) (indices : ℕ) (steps : List Step) (relay : Relay) : Type 0 where
  pub reader : relay.reader ≡ after_all (opening session indices) steps
  pub messages : relay.server.messages ≡ given (opening session indices) steps
  pub of_session : relay.server.session ≡ session

-- A datagram has come after them, and the reader was asked for messages.
pub record HasTaken
    (session : List ℕ) (indices : ℕ) (steps : List Step) (bytes : List ℕ) (relay : Relay) : Type 0
  where
    pub asked : ℕ
    pub read : HasRead session indices (steps ++ Comes bytes ∷ asks asked) relay

-- ---- the law

-- If each packet of the session says what is so of a feed, then the messages that a relay has retained are a beginning
-- of that feed, and all of it once the relay is whole.
pub record KeepsAll (feed : List (List ℕ)) (relay : Relay) : Type 0 where
  pub beginning : IsBeginning relay.server.messages feed
  pub whole : is_whole relay.reader ≡ true → relay.server.messages ≡ feed

abbrev pub KeepsTheFeed : Type 0
KeepsTheFeed =
    (feed : List (List ℕ)) (session : List ℕ) (indices : ℕ) (steps : List Step) (relay : Relay)
    → AllByRecursion (TellsOf feed session) steps → HasRead session indices steps relay
    → KeepsAll feed relay
