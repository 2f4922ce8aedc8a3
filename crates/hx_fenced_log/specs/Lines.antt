-- The lines of a record, and what else a text may have.
use Rattle.std.specs.Prelude.{◌≡◌, ◌≢◌, ℕ, suc, ◌+◌, ◌≤◌, ◌^◌, List, [], ◌∷◌, ◌++◌, length}
use Rattle.std.specs.List.{AllByRecursion}
use Rattle.hx_units.specs.Cuts.{Lacks}
use Rattle.hx_journal.specs.Lines.{lines_of, text_of}
use Rattle.hx_journal.specs.Records.{IsRecord}
use Rattle.hx_fenced_log.specs.declared.terms.head.Head.{Head}
use Rattle.hx_fenced_log.specs.declared.terms.record.RecordError.{RecordError}
use Rattle.hx_fenced_log.specs.declared.terms.record.RecordError.TheVariants.{Number, Line, Unended}
use Rattle.hx_fenced_log.specs.Records.{Record, IsHead}

-- each line is one of a tape: as a record of a journal, it has no zero and no line feed, and does
-- not begin with '#'
abbrev pub AreTapeLines : List (List ℕ) → Type 0
AreTapeLines lines = AllByRecursion IsRecord lines

-- a text is these lines, `count` in number, with a line feed after each
pub record AreTheLines (text : List ℕ) (count : ℕ) : Type 0 where
  pub is : text ≡ text_of (lines_of text)
  pub lines : AreTapeLines (lines_of text)
  pub counted : count ≡ length (lines_of text)

-- `count` such lines stand in front of the rest of a text
pub record StandInFront (count : ℕ) (text rest : List ℕ) : Type 0 where
  pub front : List (List ℕ)
  pub is : text ≡ text_of front ++ rest
  pub lines : AreTapeLines front
  pub counted : count ≡ length front

-- the line of this number is the first that is none of a tape
pub record IsBadLine (text : List ℕ) (number : ℕ) : Type 0 where
  pub before : ℕ
  pub line : List ℕ
  pub later : List ℕ
  pub stands : StandInFront before text (line ++ 10 ∷ later)
  pub ends : Lacks 10 line
  pub bad : IsRecord line → ⊥
  pub counted : number ≡ suc before

-- after the last line feed stands something
pub record IsUnended (text : List ℕ) : Type 0 where
  pub before : ℕ
  pub rest : List ℕ
  pub stands : StandInFront before text rest
  pub ends : Lacks 10 rest
  pub some : rest ≢ []

-- what is wrong with the lines of a text
abbrev pub IsLineFault : List ℕ → RecordError → Type 0
IsLineFault text Number = ⊥
IsLineFault text (Line number) = IsBadLine text number
IsLineFault text Unended = IsUnended text

-- the indices of `count` lines are numbers of heads
abbrev pub HasReserved : Head → (count : ℕ) → Type 0
HasReserved head count = head.index + count ≤ 10 ^ 14

-- What is wrong with a head and the text of its lines: the head comes before the lines, and these
-- before their indices.
abbrev pub IsRecordFault : Head → List ℕ → RecordError → Type 0
IsRecordFault head text Number =
    (count : ℕ) → IsHead head → AreTheLines text count → HasReserved head count → ⊥
IsRecordFault head text (Line number) = IsHead head × IsBadLine text number
IsRecordFault head text Unended = IsHead head × IsUnended text

-- a record may stand in a log
pub record IsOfLog (r : Record) : Type 0 where
  pub head : IsHead r.head
  pub lines : AreTapeLines r.lines
  pub indices : HasReserved r.head (length r.lines)
