-- What a file of lines is to a contract, and what it keeps.
use Rattle.std.specs.Prelude.{◌≡◌, ℕ, ◌+◌, ◌^◌, ◌≤◌, List, ◌++◌, length, take, Bool}
use Rattle.hx_disk.specs.Device.{byte, Only}
use Rattle.hx_journal.specs.Lines.{lines_of, text_of}
use Rattle.hx_journal.specs.Crashes.{IsBetween}

-- A file of lines: its device, the lines that wait for the next sync, and whether nothing has
-- failed.
pub record LineFileState (D : Type 0) : Type 0 where
  pub device : D
  pub waiting : List (List ℕ)
  pub is_open : Bool

-- lines up to this offset, and zeros after it
pub record IsAtRest (file : List ℕ) (end : ℕ) : Type 0 where
  pub inside : end ≤ length file
  pub front : take end file ≡ text_of (lines_of file)
  pub zeros : (i : ℕ) → end ≤ i → byte file i ≡ 0

-- What an open file keeps of its device, of where its lines end, of the text that waits, and of how
-- many lines both have: the file is at rest and on the disk, and no call has failed.
pub record IsSettled
    {D : Type 0} (seen : D → List ℕ) (may_leave : D → List ℕ → Type 0) (faults : D → ℕ)
    (device : D) (end : ℕ) (group : List ℕ) (number waits : ℕ) : Type 0 where
  pub file : IsAtRest (seen device) end
  pub durable : Only (seen device) (may_leave device)
  pub well : faults device ≡ 0
  pub group_is : group ≡ text_of (lines_of group)
  pub count : number ≡ length (lines_of (seen device))
  pub waiting : waits ≡ length (lines_of group)
  pub small : end + length group ≤ 2 ^ 62

-- the lines in the file
abbrev pub stored : {D : Type 0} → (D → List ℕ) → LineFileState D → List (List ℕ)
stored seen lines = lines_of (seen lines.device)

-- these, and the lines that wait
abbrev pub appended : {D : Type 0} → (D → List ℕ) → LineFileState D → List (List ℕ)
appended seen lines = stored seen lines ++ lines.waiting

-- the lines of a file are a beginning of all these, with at least those
abbrev pub HasFromTo : List (List ℕ) → List (List ℕ) → List ℕ → Type 0
HasFromTo those all file = IsBetween those (lines_of file) all

-- the lines of a file are a beginning of all that were appended, with at least those that are
-- stored
abbrev pub HasBetween : {D : Type 0} → (D → List ℕ) → LineFileState D → List ℕ → Type 0
HasBetween seen lines file = HasFromTo (stored seen lines) (appended seen lines) file

-- the file has the lines that another has, and no other
abbrev pub HasThose : List ℕ → List ℕ → Type 0
HasThose other file = lines_of file ≡ lines_of other
