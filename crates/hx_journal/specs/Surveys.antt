-- What is reported of a journal's file that is not opened.
use Rattle.std.specs.Prelude.{◌≡◌, ◌≢◌, ℕ, suc, ◌+◌, ◌≤◌, List, length, take, filter, Option, None, Some}
use Rattle.hx_disk.specs.Device.{byte}
use Rattle.hx_journal.specs.Records.{is_mark}

-- a file up to its damage, if it has one
abbrev pub before_damage : List ℕ → Option ℕ → List ℕ
before_damage file None = file
before_damage file (Some at) = take at file

-- the journal's own lines among these
abbrev pub marks_of : List (List ℕ) → List (List ℕ)
marks_of lines = filter is_mark lines

-- After an offset of a file stand `some` bytes, of which the last is not zero, and then `zeros`
-- zeros up to its end.
pub record StandsAfter (file : List ℕ) (offset some zeros : ℕ) : Type 0 where
  pub all : offset + some + zeros ≡ length file
  pub last : (i : ℕ) → suc i ≡ some → byte file (offset + i) ≢ 0
  pub rest : (i : ℕ) → offset + some ≤ i → byte file i ≡ 0
