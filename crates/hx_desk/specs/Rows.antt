-- The replies that were sent, a row for each member number.
use Rattle.std.specs.Prelude.{◌≡◌, length, ℕ, ◌+◌, ◌-◌, ◌<◌, ◌≤◌, ◌==◌, if◌then◌else◌, List, [], ◌∷◌, ◌++◌, map, take, drop, replicate, slice_index, slice_index_or, slice_set}
use Rattle.std.specs.Global.{Vec}
use Rattle.std.specs.Vec.{vec_len, vec_capacity}
use Rattle.arrayvec.specs.ArrayVec.{ArrayVec}
use Rattle.hx_units.specs.Fields.{texts}
use Rattle.hx_ouch.specs.declared.outbound.Outbound.{Outbound}
use Rattle.hx_ouch.specs.Outbound.{outbound_bytes}
use Rattle.hx_market.specs.Outputs.{Reply}

-- the bytes of replies (OUCH 4.2, Outbound Messages)
abbrev pub replies_spelled : List Outbound → List (List ℕ)
replies_spelled replies = map outbound_bytes replies

-- Part of a member's replies, which are counted from 1.
abbrev pub Part : Type 0
Part = List (List ℕ) → List (List ℕ)

-- from this number on; 0 is read as 1
abbrev pub from_number : (number : ℕ) → Part
from_number number replies = drop (number - 1) replies

-- at most `most` of them, from this number on
abbrev pub page : (number most : ℕ) → Part
page number most replies = take most (drop (number - 1) replies)

-- The rows.

-- a row for each number from 0, the operator's, to 4,095, the last member's
abbrev pub row_count : ℕ
row_count = 4096

-- replies in bytes, a row for each member number
abbrev pub RowList : Type 0
RowList = List (List (List ℕ))

-- the row of a member number
abbrev pub row_of : RowList → (member : ℕ) → List (List ℕ)
row_of rows member = slice_index_or rows member []

-- each row empty
abbrev pub no_rows : RowList
no_rows = replicate row_count []

-- the rows after one more reply, and after several
abbrev pub with_reply : RowList → Reply → RowList
with_reply rows reply = slice_set rows reply.0 (row_of rows reply.0 ++ outbound_bytes reply.1 ∷ [])

abbrev pub with_replies : RowList → List Reply → RowList
with_replies rows [] = rows
with_replies rows (reply ∷ replies) = with_replies (with_reply rows reply) replies

-- Room for replies.

-- what contracts see of the rows: the replies, the number of further replies for which each row has room, and the
-- number of published replies of each row
pub record RoomyRows : Type 0 where
  pub rows : RowList
  pub spare : List ℕ
  pub published_end : List ℕ

-- the first replies of each row; their number is the row's count
abbrev pub shown : (counts : List ℕ) → RowList → RowList
shown [] rows = []
shown (n ∷ counts) [] = []
shown (n ∷ counts) (row ∷ rows) = take n row ∷ shown counts rows

-- the published replies to a member
abbrev pub published_row : RoomyRows → (member : ℕ) → List (List ℕ)
published_row rows member = take (slice_index rows.published_end member) (row_of rows.rows member)

-- the replies to one member as their bytes, and the number of further replies for which there is room
abbrev pub row_texts : Vec (ArrayVec ℕ) → List (List ℕ)
row_texts row = texts row.items

abbrev pub row_spare : Vec (ArrayVec ℕ) → ℕ
row_spare row = vec_capacity row - vec_len row

-- the members of replies, in order
abbrev pub members_of : List Reply → List ℕ
members_of replies = map (λ r. r.0) replies

-- the number of times that a member is among those of replies
abbrev pub times : (member : ℕ) → List ℕ → ℕ
times member [] = 0
times member (m ∷ ms) = (if m == member then 1 else 0) + times member ms

-- each row has room for the replies to these members
abbrev pub HasRoomFor : (spare members : List ℕ) → Type 0
HasRoomFor spare members =
    (member : ℕ) → member < row_count → times member members ≤ slice_index spare member

-- the count of each member is raised by the number of times that the member is in the list
abbrev pub AreRaised : (old new members : List ℕ) → Type 0
AreRaised old new members =
    (member : ℕ) → member < row_count
    → slice_index new member ≡ slice_index old member + times member members

-- each member has an unpublished reply for each time that the list names the member
abbrev pub HasUntold : RoomyRows → (members : List ℕ) → Type 0
HasUntold rows members =
    (member : ℕ) → member < row_count
    → slice_index rows.published_end member + times member members ≤ length (row_of rows.rows member)

-- the counts of these members are 0
abbrev pub AreZeroAt : (counts members : List ℕ) → Type 0
AreZeroAt counts members =
    (k : ℕ) → k < length members → slice_index counts (slice_index members k) ≡ 0
