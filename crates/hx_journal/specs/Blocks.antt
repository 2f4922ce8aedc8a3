-- A journal in a file: blocks of records.
use Rattle.std.specs.Prelude.{◌≡◌, ℕ, List, length}
use Rattle.hx_journal.specs.Records.{records_of, sealed, recovered}
use Rattle.hx_journal.specs.Files.{LineFileState, stored}

-- What an open journal keeps of its lines, and of how many records are stored: each block in the
-- file is whole, and no mark waits.
pub record IsSealed
    {D : Type 0} (seen : D → List ℕ) (lines : LineFileState D) (count : ℕ) : Type 0 where
  pub whole : sealed (stored seen lines) ≡ stored seen lines
  pub waiting : records_of lines.waiting ≡ lines.waiting
  pub number : count ≡ length (records_of (stored seen lines))

-- what recovery reads of a file that a crash might have left
abbrev pub left_of : (ℕ → List ℕ → Type 0) → ℕ → List (List ℕ) → Type 0
left_of left_since t records = (file : List ℕ) × left_since t file × (records ≡ recovered file)
