-- How a session is opened.
use Rattle.std.specs.Prelude.{ℕ, ◌≡◌, ◌⊎◌, ◌≤◌, List, [], ◌∷◌, ◌++◌, length, Bool, true, Option, Some, None, Ok}
use Rattle.std.specs.Io.KnownBytes.{Consumes, IsAtEnd}
use Rattle.hx_soup.specs.Kinds.{login_request}
use Rattle.hx_soup.specs.Logins.{IsLogin}
use Rattle.hx_soup.specs.Packets.{framed, Cuts}
use Rattle.hx_soup.specs.declared.packet.SoupPacket.{SoupPacket}
use Rattle.hx_sessions.specs.declared.ending.Ended.TheVariants as ended
use Rattle.hx_sessions.specs.declared.ending.Stop.{Stop}
use Rattle.hx_sessions.specs.declared.ending.Stop.TheVariants as stop
use Rattle.hx_soup.specs.declared.login.LoginRequest.{LoginRequest}
use Rattle.hx_members.specs.Setups.{Setup}
use Rattle.hx_sessions.specs.Starts.{start_of}
use Rattle.hx_sessions.specs.declared.beginning.Start.{Start}
use Rattle.hx_blog.specs.Feed.{Entries}
use Rattle.hx_desk.specs.declared.entry.Entry.{Entry}
use Rattle.hx_desk.specs.Known.{IsWhole, known_replies}
use Rattle.hx_sessions.specs.declared.copies.DropCopy.{DropCopy}
use Rattle.hx_sessions.specs.Copies.{read_by}

-- what was read is the packet of this login, and nothing after it
pub record LogsIn (old new : Option (List ℕ)) (login : LoginRequest) : Type 0 where
  pub payload : List ℕ
  pub read : Consumes old new (framed login_request payload)
  pub is : IsLogin payload login

-- No login came whole: an end of the input within it, the end of the day, which comes only once it is
-- past, or a fault.
abbrev pub NoLogin : (past : Bool) → Option (List ℕ) → Option (List ℕ) → Stop → Type 0
NoLogin past old new stop.PeerStopped = ⊥
NoLogin past old new (stop.Ended e) =
    (((e ≡ ended.ReaderEnd) × IsAtEnd new) ⊎ ((e ≡ ended.DayEnd) × (past ≡ true)))
    × (bytes : List ℕ) × Consumes old new bytes × (rest : List ℕ) × Cuts bytes [] rest
NoLogin past old new (stop.Faulted f) = (bytes : List ℕ) × Consumes old new bytes

-- What one read of the first packet gives: the login, or nothing whole so far.
abbrev pub GivesFirst :
    (before after : Option (List ℕ)) → (piece : List ℕ) → Option LoginRequest → Type 0
GivesFirst before after piece None =
    ((piece ≡ []) × (after ≡ before))
    ⊎ ((retained : List ℕ) × (rest : List ℕ) × (before ≡ Some retained) × (after ≡ Some rest)
    × Cuts (retained ++ piece) [] rest)
GivesFirst before after piece (Some login) =
    (retained : List ℕ) × (rest : List ℕ) × (p : SoupPacket) × (others : List SoupPacket)
    × (before ≡ Some retained) × Cuts (retained ++ piece) (p ∷ others) rest
    × (p.kind ≡ login_request) × IsLogin p.payload.items login

-- One read of the first packet, of at most `room` bytes.
pub record ReadsFirst
    (old new : Option (List ℕ)) (before after : Option (List ℕ)) (room : ℕ)
    (login : Option LoginRequest) (count : ℕ)
    : Type 0 where
  pub piece : List ℕ
  pub read : Consumes old new piece
  pub size : length piece ≡ count
  pub fits : count ≤ room
  pub gives : GivesFirst before after piece login

-- how a read of the first packet ends the session
abbrev pub FailsFirst : Option (List ℕ) → Option (List ℕ) → Stop → Type 0
FailsFirst old new stop.PeerStopped = ⊥
FailsFirst old new (stop.Ended e) = (e ≡ ended.ReaderEnd) × Consumes old new [] × IsAtEnd new
FailsFirst old new (stop.Faulted f) = (bytes : List ℕ) × Consumes old new bytes

-- So far less than a whole packet was read.
pub record AwaitsLogin
    (old new : Option (List ℕ)) (framer : Option (List ℕ)) (count : ℕ)
    : Type 0 where
  pub bytes : List ℕ
  pub read : Consumes old new bytes
  pub retained : framer ≡ Some bytes
  pub cuts : Cuts bytes [] bytes
  pub size : length bytes ≡ count

-- The login starts the session so: it is this member's; it names the present session or none; and the first reply is
-- the one that was asked for, of those that the member gets up to what is known, or the next one. What is known is a
-- whole history.
pub record Opens (setup own : Setup) (copies : List DropCopy) (login : LoginRequest)
    (known : Entries Entry) (s : Start) : Type 0 where
  pub is : start_of own login (length (known_replies setup (read_by copies s.member) known)) ≡ Ok s
  pub whole : IsWhole setup known
