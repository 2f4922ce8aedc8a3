-- A journal, and another one with the same records.
use Rattle.std.specs.Prelude.{◌≡◌, ℕ, List, ◌++◌, Bool, true, ◌&&◌}
use Rattle.std.specs.List.{AllByRecursion}
use Rattle.hx_journal.specs.Lines.{lines_of, text_of}
use Rattle.hx_journal.specs.Records.{IsRecord}

-- The journal, its mirror, whether no sync of one of them has failed, and how many calls have.
pub record MirroredState (J M : Type 0) : Type 0 where
  pub journal : J
  pub mirror : M
  pub in_step : Bool
  pub failed : ℕ

-- nothing has closed them
abbrev pub both_open : {J M : Type 0} → (J → Bool) → MirroredState J M → Bool
both_open is_open s = is_open s.journal && s.in_step

-- a mirror has these records, all of them durable, and was given no others, and nothing has closed
-- it
pub record Mirrors {M : Type 0} (appended durable : M → List (List ℕ)) (is_open : M → Bool)
    (mirror : M) (records : List (List ℕ)) : Type 0 where
  pub appended_is : appended mirror ≡ records
  pub durable_is : durable mirror ≡ records
  pub opened : is_open mirror ≡ true

-- a text is records, each with a line feed after it
pub record IsOfRecords (text : List ℕ) : Type 0 where
  pub is : text ≡ text_of (lines_of text)
  pub records : AllByRecursion IsRecord (lines_of text)

-- Of the records of a text some are appended, and the rest of the text is the others.
pub record IsHalfWritten (before now all : List (List ℕ)) (rest : List ℕ) : Type 0 where
  pub others : List (List ℕ)
  pub rest_is : rest ≡ text_of others
  pub records : AllByRecursion IsRecord others
  pub all_are : now ++ others ≡ before ++ all

-- The mirror has what is durable in the journal, and lacks the records of the text that waits.
pub record IsAsFar {J M : Type 0}
    (appended durable : J → List (List ℕ)) (mirrored mirror_durable : M → List (List ℕ))
    (is_open : M → Bool) (journal : J) (mirror : M) (waiting : List ℕ) : Type 0 where
  pub appended_is : appended journal ≡ durable journal ++ lines_of waiting
  pub mirrors : Mirrors mirrored mirror_durable is_open mirror (durable journal)

-- A text of records waits, and unless a sync has failed the mirror lacks just these.
pub record IsInStep {J M : Type 0}
    (appended durable : J → List (List ℕ)) (mirrored mirror_durable : M → List (List ℕ))
    (is_open : M → Bool) (journal : J) (mirror : M) (waiting : List ℕ) (in_step : Bool)
    : Type 0 where
  pub text : IsOfRecords waiting
  pub as_far : in_step ≡ true
      → IsAsFar appended durable mirrored mirror_durable is_open journal mirror waiting
