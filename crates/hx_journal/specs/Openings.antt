-- How a journal is opened, and why it is not.
use Rattle.std.specs.Prelude.{◌≡◌, ℕ, List, [], ◌∷◌, true}
use mathlib.Core.List.{IsPrefix}
use Rattle.hx_journal.specs.Lines.{lines_of, text_of}
use Rattle.hx_journal.specs.Records.{records_of, sealed, recovered}
use Rattle.hx_journal.specs.Errors.{IsCause}
use Rattle.hx_journal.specs.Files.{LineFileState, stored}
use Rattle.hx_journal.specs.declared.open_error.OpenError.{OpenError}
use Rattle.hx_journal.specs.declared.open_error.OpenError.TheVariants.{Journal, Damaged, OtherHead}

-- The journal of a file that had these bytes: it begins with this line, keeps the records that
-- recovery reads of the file, which are the lines of the tape that is given out, and nothing waits.
pub record IsOpened
    {D : Type 0} (seen : D → List ℕ) (file head tape : List ℕ) (journal : LineFileState D)
    : Type 0 where
  pub is_open : journal.is_open ≡ true
  pub head_is : IsPrefix (head ∷ []) (stored seen journal)
  pub durable : records_of (stored seen journal) ≡ recovered file
  pub waiting : journal.waiting ≡ []
  pub tape_is : tape ≡ text_of (recovered file)
  pub records_are : lines_of tape ≡ recovered file

-- the file is not one that a crash leaves of this day's journal
abbrev pub IsRefusal : OpenError → Type 0
IsRefusal (Journal error) = ⊥
IsRefusal (Damaged at) = Unit {0}
IsRefusal (OtherHead part) = Unit {0}

-- a fault of the device is reported only if a call of it has failed since
abbrev pub IsOpenCause : (before : ℕ) → (now : ℕ) → OpenError → Type 0
IsOpenCause before now (Journal error) = IsCause before now error
IsOpenCause before now (Damaged at) = Unit {0}
IsOpenCause before now (OtherHead part) = Unit {0}

-- the file is the journal of another day
abbrev pub IsOtherDay : OpenError → Type 0
IsOtherDay (Journal error) = ⊥
IsOtherDay (Damaged at) = ⊥
IsOtherDay (OtherHead part) = Unit {0}

-- another day is named only if the whole blocks of the file do not begin with this line
abbrev pub NamesOther : List ℕ → List ℕ → OpenError → Type 0
NamesOther file head error = IsOtherDay error → IsPrefix (head ∷ []) (sealed (lines_of file)) → ⊥
