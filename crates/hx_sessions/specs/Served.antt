-- A session from its login to its end: what it read, wrote and submitted, by how it ended.
use Rattle.std.specs.Prelude.{ℕ, ◌≡◌, ◌⊎◌, ◌+◌, List, [], ◌∷◌, ◌++◌, length, Option, Some, IfSome, Bool, true, false, Result, Ok, Err}
use Rattle.std.specs.List.{concat}
use Rattle.std.specs.Io.KnownBytes.{Consumes, Appends, Keeps, IsAtEnd}
use mathlib.Core.List.{IsPrefix}
use Rattle.hx_soup.specs.Kinds.{login_accepted, login_rejected}
use Rattle.hx_soup.specs.Logins.{padded}
use Rattle.hx_soup.specs.Packets.{framed, Cuts}
use Rattle.hx_soup.specs.declared.packet.SoupPacket.{SoupPacket}
use Rattle.hx_soup.specs.declared.login.LoginRequest.{LoginRequest}
use Rattle.hx_members.specs.Setups.{Setup}
use Rattle.hx_blog.specs.Feed.{Entries}
use Rattle.hx_blog.specs.Ends.{ReaderState}
use Rattle.hx_desk.specs.declared.entry.Entry.{Entry}
use Rattle.hx_desk.specs.Known.{known_replies}
use Rattle.hx_engine.specs.Passes.{PassState}
use Rattle.hx_sessions.specs.Starts.{start_of}
use Rattle.hx_sessions.specs.declared.beginning.Start.{Start}
use Rattle.hx_sessions.specs.declared.ending.Ended.{Ended}
use Rattle.hx_sessions.specs.declared.ending.Ended.TheVariants as ended
use Rattle.hx_sessions.specs.declared.ending.Fault.{Fault}
use Rattle.hx_sessions.specs.declared.ending.Fault.TheVariants as fault
use Rattle.hx_sessions.specs.Asked.{asked, HasLogout, IsStream, Submits, CarriesOn}
use Rattle.hx_sessions.specs.declared.copies.DropCopy.{DropCopy}
use Rattle.hx_sessions.specs.Copies.{read_by, may_send}
use Rattle.hx_units.specs.Writing.{Writes}
use Rattle.hx_sessions.specs.Frames.{day_over, AreFrames}
use Rattle.hx_sessions.specs.Logins.{LogsIn, Opens}

-- What contracts see of a part: the bytes that its input still has and those that its output has taken, if these are
-- known, its pass and its reader.
pub record Side : Type 0 where
  pub input : Option (List ℕ)
  pub output : Option (List ℕ)
  pub pass : PassState
  pub reader : ReaderState Entry

-- the answer to an accepted login (SoupBinTCP 3.00, Login Accepted Packet)
abbrev pub acceptance : Setup → (first : ℕ) → List ℕ
acceptance own first = framed login_accepted (own.session ++ padded first)

-- the answer to a rejected login (SoupBinTCP 3.00, Login Rejected Packet)
abbrev pub rejection : (reason : ℕ) → List ℕ
rejection reason = framed login_rejected (reason ∷ [])

-- ---- what goes out

-- The frames bring the replies from number `first` on, each once and in order, and the rest is left. If the end of the
-- session is among them, nothing is left, and the day is past.
pub record Brings
    (past : Bool) (first : ℕ) (replies rest : List (List ℕ)) (over : Bool)
    (frames : List (List ℕ))
    : Type 0 where
  pub before : List (List ℕ)
  pub rows : List (List ℕ)
  pub splits : replies ≡ before ++ (rows ++ rest)
  pub starts : first ≡ length before + 1
  pub are : AreFrames rows over frames
  pub ends : over ≡ true → (rest ≡ []) × (past ≡ true)

-- The answer to the login was written, and after it such frames.
pub record Wrote
    (past : Bool) (answer : List ℕ) (first : ℕ) (replies rest : List (List ℕ)) (over : Bool)
    (old new : Option (List ℕ))
    : Type 0 where
  pub frames : List (List ℕ)
  pub brings : Brings past first replies rest over frames
  pub wrote : Appends old new (answer ++ concat frames)

-- A beginning of these bytes was written.
pub record WroteSome
    (past : Bool) (answer : List ℕ) (first : ℕ) (replies : List (List ℕ))
    (old new : Option (List ℕ))
    : Type 0 where
  pub rest : List (List ℕ)
  pub over : Bool
  pub frames : List (List ℕ)
  pub brings : Brings past first replies rest over frames
  pub unwritten : List ℕ
  pub wrote : Writes old new (answer ++ concat frames) unwritten

-- ---- how a session ends

-- After a logout, which is among the packets, all that was asked for before it is submitted, and all
-- replies went out. At the end of the input all is read and submitted. At the end of the day, once it
-- is past, all replies went out, and the end of the session. After a fault a beginning is submitted,
-- and a beginning was written.
abbrev pub EndsAs :
    (past : Bool) (answer : List ℕ) (first : ℕ) (replies : List (List ℕ))
    (packets : List SoupPacket) (done : List (List ℕ)) (unread : Option (List ℕ))
    (old new : Option (List ℕ))
    → Result Ended Fault → Type 0
EndsAs past answer first replies packets done unread old new (Ok ended.Logout) =
    (done ≡ asked packets) × HasLogout packets
    × Wrote past answer first replies [] false old new
EndsAs past answer first replies packets done unread old new (Ok ended.ReaderEnd) =
    (done ≡ asked packets) × IsAtEnd unread
    × (rest : List (List ℕ)) × Wrote past answer first replies rest false old new
EndsAs past answer first replies packets done unread old new (Ok ended.DayEnd) =
    (past ≡ true) × (done ≡ asked packets) × Wrote past answer first replies [] true old new
EndsAs past answer first replies packets done unread old new (Err f) =
    IsPrefix done (asked packets) × WroteSome past answer first replies old new

-- at a logout the reader knows every entry of the pass
abbrev pub KnowsItsOwn : PassState → (known : Entries Entry) → Result Ended Fault → Type 0
KnowsItsOwn pass known result = result ≡ Ok ended.Logout → IsPrefix pass.known known

-- After the login: the packets that were read, what was submitted for them, and what was written. Bytes are lost only
-- when out of memory.
pub record Converses
    (setup : Setup) (member first : ℕ) (answer : List ℕ) (old new : Side)
    (result : Result Ended Fault)
    : Type 0 where
  pub bytes : List ℕ
  pub lost : List ℕ
  pub packets : List SoupPacket
  pub done : List (List ℕ)
  pub read : Consumes old.input new.input (bytes ++ lost)
  pub none_lost : (lost ≡ []) ⊎ (result ≡ Err fault.NoMemory)
  pub stream : IsStream bytes packets
  pub submits : Submits member old.pass.sent new.pass.sent done
  pub knows : KnowsItsOwn new.pass new.reader.known result
  pub ends :
      EndsAs (day_over setup new.reader.known) answer first
      (known_replies setup member new.reader.known) packets done new.input
      old.output new.output result

-- ---- logins

-- No login came whole, and nothing was written: the input ended within it, or the day, once it is past,
-- or there was a fault.
pub record NotLoggedIn
    (past : Bool) (input left output answered : Option (List ℕ)) (result : Result Ended Fault)
    : Type 0 where
  pub bytes : List ℕ
  pub read : Consumes input left bytes
  pub wrote : Keeps output answered
  pub ends :
      ((((result ≡ Ok ended.ReaderEnd) × IsAtEnd left)
      ⊎ ((result ≡ Ok ended.DayEnd) × (past ≡ true)))
      × (rest : List ℕ) × Cuts bytes [] rest)
      ⊎ ((f : Fault) × (result ≡ Err f))

-- The login was rejected for this reason: the answer was written, or a beginning of it.
pub record Rejected
    (own : Setup) (input left output answered : Option (List ℕ)) (result : Result Ended Fault)
    : Type 0 where
  pub login : LoginRequest
  pub replies : ℕ
  pub reason : ℕ
  pub read : LogsIn input left login
  pub is : start_of own login replies ≡ Err reason
  pub ends :
      ((result ≡ Err (fault.NotAuthorized reason)) × Appends output answered (rejection reason))
      ⊎ ((result ≡ Err fault.Write)
      × (unwritten : List ℕ) × Writes output answered (rejection reason) unwritten)

-- A login was accepted and answered.
pub record Admits
    (setup own : Setup) (copies : List DropCopy) (input left output answered : Option (List ℕ))
    (known : Entries Entry) (start : Start)
    : Type 0 where
  pub login : LoginRequest
  pub read : LogsIn input left login
  pub opens : Opens setup own copies login known start
  pub wrote : Appends output answered (acceptance own start.first)

-- A login was accepted, and its answer broken off.
pub record BreaksOff
    (setup own : Setup) (copies : List DropCopy) (input left output answered : Option (List ℕ))
    (known : Entries Entry) (result : Result Ended Fault)
    : Type 0 where
  pub login : LoginRequest
  pub start : Start
  pub read : LogsIn input left login
  pub opens : Opens setup own copies login known start
  pub unwritten : List ℕ
  pub wrote : Writes output answered (acceptance own start.first) unwritten
  pub is : result ≡ Err fault.Write

-- no login came, or it was rejected, or its answer was broken off
abbrev pub Dismisses :
    (setup own : Setup) → List DropCopy → (input left output answered : Option (List ℕ))
    → Entries Entry → Result Ended Fault → Type 0
Dismisses setup own copies input left output answered known result =
    NotLoggedIn (day_over setup known) input left output answered result
    ⊎ Rejected own input left output answered result
    ⊎ BreaksOff setup own copies input left output answered known result

-- ---- sessions

-- The login was accepted: the session begins with the reply that was asked for, of those that the login
-- gets. The reader had caught up with a whole history then, and has not lost any of it since. A drop
-- copy has sent nothing.
pub record Opened
    (setup own : Setup) (copies : List DropCopy) (old new : Side) (result : Result Ended Fault)
    : Type 0 where
  pub login : LoginRequest
  pub start : Start
  pub at_login : Entries Entry
  pub input : Option (List ℕ)
  pub read : LogsIn old.input input login
  pub since : IsPrefix old.reader.known at_login
  pub opens : Opens setup own copies login at_login start
  pub knew : IsPrefix at_login new.reader.known
  pub silent : may_send copies start.member ≡ false → new.pass.sent ≡ old.pass.sent
  pub converses :
      Converses setup (read_by copies start.member) start.first (acceptance own start.first)
      (record old { input = input }) new result

-- The state of a part after a session: its reader is of the same log, and the reader and the pass know what they knew,
-- or more.
pub record GoesOn (old new : Side) : Type 0 where
  pub log : new.reader.log ≡ old.reader.log
  pub reader : IsPrefix old.reader.known new.reader.known
  pub pass : CarriesOn true old.pass new.pass

-- how a session went: no login came, or it was rejected, and nothing was submitted; or it was accepted
abbrev pub Went :
    (setup own : Setup) → List DropCopy → (old new : Side) → Result Ended Fault → Type 0
Went setup own copies old new result =
    (NotLoggedIn (day_over setup new.reader.known) old.input new.input old.output new.output
    result × (new.pass ≡ old.pass))
    ⊎ (Rejected own old.input new.input old.output new.output result × (new.pass ≡ old.pass))
    ⊎ Opened setup own copies old new result

-- A session of a member of `own`, at the exchange of `setup`: how it went, and the part goes on.
pub record Serves
    (setup own : Setup) (copies : List DropCopy) (old new : Side) (result : Result Ended Fault)
    : Type 0 where
  pub goes_on : GoesOn old new
  pub went : Went setup own copies old new result

-- Two sessions of one part, one after the other: after both the part knows what it knew before and between them, and
-- the replies to a member are those up to the first one's end, and others after them.
abbrev pub SessionsGoOn : Type 0
SessionsGoOn =
    (setup own : Setup) (copies : List DropCopy) (before between after : Side)
    (first second : Result Ended Fault)
    → Serves setup own copies before between first → Serves setup own copies between after second
    → GoesOn before after
    × ((member : ℕ) → IsPrefix (known_replies setup member between.reader.known)
    (known_replies setup member after.reader.known))

-- ---- many at once

-- The part that waited, if one did, was served.
pub record ServesWaiting
    (setup own : Setup) (copies : List DropCopy) (waiting : Option Side)
    (served : Option (Side × Result Ended Fault))
    : Type 0 where
  pub serves :
      IfSome waiting (λ p. (s : Side × Result Ended Fault) × (served ≡ Some s)
      × Serves setup own copies p s.0 s.1)

-- Each part was served, in their order: the first of what came of them is that of the first, and so on.
abbrev pub ServesAll :
    (setup own : Setup) → List DropCopy → (parts : List Side)
    → (served : List (Side × Result Ended Fault)) → Type 0
ServesAll setup own copies [] [] = Unit {0}
ServesAll setup own copies [] (s ∷ ss) = ⊥
ServesAll setup own copies (p ∷ ps) [] = ⊥
ServesAll setup own copies (p ∷ ps) (s ∷ ss) =
    Serves setup own copies p s.0 s.1 × ServesAll setup own copies ps ss
