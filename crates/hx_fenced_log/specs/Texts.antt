-- The texts of records.
use Rattle.std.specs.Prelude.{◌≡◌, ◌≢◌, ℕ, List, ◌∷◌, ◌++◌, Result, Ok, Err}
use Rattle.std.specs.Fmt.{decimal}
use Rattle.hx_units.specs.Letters.{letter, space, line_feed}
use Rattle.hx_units.specs.Cuts.{Lacks}
use Rattle.hx_journal.specs.Lines.{text_of}
use Rattle.hx_fenced_log.specs.declared.terms.head.Head.{Head}
use Rattle.hx_fenced_log.specs.declared.terms.record.RecordError.{RecordError}
use Rattle.hx_fenced_log.specs.declared.terms.text.TextError.{TextError}
use Rattle.hx_fenced_log.specs.declared.terms.text.TextError.TheVariants as fault
use Rattle.hx_fenced_log.specs.Records.{Record, IsHead}
use Rattle.hx_fenced_log.specs.Lines.{IsRecordFault}

-- the byte that begins a line which is none of a tape
abbrev pub mark : ℕ
mark = letter "#"

-- `#NUMBER TERM WRITER INDEX`
abbrev pub head_line : Head → List ℕ
head_line head =
    mark ∷ (decimal head.number
    ++ (space ∷ (decimal head.term
    ++ (space ∷ (decimal head.writer ++ (space ∷ decimal head.index))))))

-- the text of a record: its first line, and its lines
abbrev pub spelled : Record → List ℕ
spelled r = head_line r.head ++ (line_feed ∷ text_of r.lines)

-- the first line of a text is none of a record
pub record HasNoHead (text : List ℕ) : Type 0 where
  pub line : List ℕ
  pub later : List ℕ
  pub is : text ≡ line ++ line_feed ∷ later
  pub ends : Lacks line_feed line
  pub none : (head : Head) → IsHead head → line ≢ head_line head

-- the first line of a text is one of a record
pub record HasHead (text : List ℕ) : Type 0 where
  pub head : Head
  pub later : List ℕ
  pub is : text ≡ head_line head ++ (line_feed ∷ later)
  pub good : IsHead head

-- after it stand no lines of this record
pub record HasBadLines (text : List ℕ) (error : RecordError) : Type 0 where
  pub head : Head
  pub later : List ℕ
  pub is : text ≡ head_line head ++ (line_feed ∷ later)
  pub good : IsHead head
  pub bad : IsRecordFault head later error

-- what is wrong with a text
abbrev pub IsTextFault : List ℕ → TextError → Type 0
IsTextFault text fault.NoLine = Lacks line_feed text
IsTextFault text fault.Head = HasNoHead text
IsTextFault text (fault.Lines error) = HasBadLines text error
IsTextFault text fault.NoMemory = HasHead text

-- a text was read as this record, or there was no memory for it
abbrev pub IsReadAs : Result Record TextError → Record → Type 0
IsReadAs (Ok found) r = found ≡ r
IsReadAs (Err error) r = error ≡ fault.NoMemory
