-- The records of a log that several append to.
use Rattle.std.specs.Prelude.{ℕ, ◌<◌, ◌^◌, List}
use Rattle.hx_fenced_log.specs.declared.terms.head.Head.{Head}

-- a number of a head: at least 1, and of 14 digits at most
abbrev pub IsNumber : ℕ → Type 0
IsNumber n = (0 < n) × (n < 10 ^ 14)

-- a record of a log may have this head
pub record IsHead (head : Head) : Type 0 where
  pub number : IsNumber head.number
  pub term : IsNumber head.term
  pub writer : IsNumber head.writer
  pub index : IsNumber head.index

-- a record: its writer and where it stands, and its lines
pub record Record : Type 0 where
  pub head : Head
  pub lines : List (List ℕ)
