-- What a session writes.
use Rattle.std.specs.Prelude.{ℕ, ◌≡◌, ◌⊎◌, ◌+◌, ◌≤◌, List, [], ◌∷◌, ◌++◌, length, Option, Bool, true, false}
use Rattle.std.specs.List.{concat}
use Rattle.std.specs.Io.KnownBytes.{Appends}
use Rattle.hx_units.specs.Writing.{Writes}
use Rattle.hx_soup.specs.Kinds.{sequenced_data, server_heartbeat, end_of_session}
use Rattle.hx_soup.specs.Packets.{framed}
use Rattle.hx_sessions.specs.Deliveries.{Delivery}
use Rattle.hx_members.specs.Setups.{Setup}
use Rattle.hx_blog.specs.Feed.{Entries}
use Rattle.hx_desk.specs.declared.entry.Entry.{Entry}
use Rattle.hx_desk.specs.Desks.{is_over}
use Rattle.hx_desk.specs.Known.{known_market}

-- ---- writers

-- A writer took all these frames.
abbrev pub WritesAll : Option (List ℕ) → Option (List ℕ) → List (List ℕ) → Type 0
WritesAll old new frames = Appends old new (concat frames)

-- A writer took a beginning of these frames.
abbrev pub WritesSome : Option (List ℕ) → Option (List ℕ) → List (List ℕ) → Type 0
WritesSome old new frames = (rest : List ℕ) × Writes old new (concat frames) rest

-- ---- the day

-- whether the day is over by what is known: hours code C is past
abbrev pub day_over : Setup → (known : Entries Entry) → Bool
day_over setup known = is_over (known_market setup known)

-- ---- frames

-- The frames are one of sequenced data for each of these replies, in order, with heartbeats between them, and, if the
-- session is over, one end of the session after them.
abbrev pub AreFrames : List (List ℕ) → Bool → List (List ℕ) → Type 0
AreFrames rows over [] = (rows ≡ []) × (over ≡ false)
AreFrames rows over (frame ∷ frames) =
    ((frame ≡ framed server_heartbeat []) × AreFrames rows over frames)
    ⊎ ((row : List ℕ) × (others : List (List ℕ)) × (rows ≡ row ∷ others)
    × (frame ≡ framed sequenced_data row) × AreFrames others over frames)
    ⊎ ((frame ≡ framed end_of_session []) × (rows ≡ []) × (over ≡ true) × (frames ≡ []))

-- a number of one of these replies, which count from 1, or of the one that comes next
abbrev pub IsNextOf : List (List ℕ) → ℕ → Type 0
IsNextOf replies number = (1 ≤ number) × (number ≤ length replies + 1)

-- what one turn sends: the next reply, the end of the session, a heartbeat or nothing
abbrev pub Sends : Delivery → Delivery → List (List ℕ) → Bool → List (List ℕ) → Type 0
Sends old new (row ∷ rows) ended frames =
    (frames ≡ framed sequenced_data row ∷ []) × (new.next ≡ old.next + 1) × (new.over ≡ false)
Sends old new [] true frames =
    (frames ≡ framed end_of_session [] ∷ []) × (new.next ≡ old.next) × (new.over ≡ true)
Sends old new [] false frames =
    ((frames ≡ framed server_heartbeat [] ∷ []) ⊎ (frames ≡ [])) × (new.next ≡ old.next)
    × (new.over ≡ false)

-- Of these replies those from number `first` on have gone out in these frames, and the rest is left: nothing, if the
-- end of the session has gone out.
pub record Delivers (first : ℕ) (replies rest : List (List ℕ)) (d : Delivery)
    (frames : List (List ℕ)) : Type 0 where
  pub before : List (List ℕ)
  pub rows : List (List ℕ)
  pub splits : replies ≡ before ++ (rows ++ rest)
  pub starts : first ≡ length before + 1
  pub next : d.next ≡ first + length rows
  pub are : AreFrames rows d.over frames
  pub ends : d.over ≡ true → rest ≡ []

-- So far the frames were written whole.
pub record Sent (first : ℕ) (replies rest : List (List ℕ)) (d : Delivery)
    (old new : Option (List ℕ)) : Type 0 where
  pub frames : List (List ℕ)
  pub delivers : Delivers first replies rest d frames
  pub wrote : WritesAll old new frames

-- A beginning of the frames was written.
pub record SentSome (first : ℕ) (replies rest : List (List ℕ)) (d : Delivery)
    (old new : Option (List ℕ)) : Type 0 where
  pub frames : List (List ℕ)
  pub delivers : Delivers first replies rest d frames
  pub wrote : WritesSome old new frames
