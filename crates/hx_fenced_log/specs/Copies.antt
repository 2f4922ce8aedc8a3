-- Copies of a log: the texts of records, concatenated.
use Rattle.std.specs.Prelude.{◌≡◌, ◌≢◌, ℕ, true, false, List, [], ◌∷◌, ◌++◌, length, Result, Ok, Err}
use Rattle.std.specs.List.{AllByRecursion}
use Rattle.hx_units.specs.Letters.{line_feed}
use Rattle.hx_journal.specs.Records.{is_mark}
use Rattle.hx_fenced_log.specs.declared.terms.copy.RecordsError.{RecordsError}
use Rattle.hx_fenced_log.specs.declared.terms.copy.RecordsError.TheVariants as refusal
use Rattle.hx_fenced_log.specs.declared.terms.copy.WholeRecords.{WholeRecords}
use Rattle.hx_fenced_log.specs.declared.terms.text.TextError.{TextError}
use Rattle.hx_fenced_log.specs.declared.terms.text.TextError.TheVariants as fault
use Rattle.hx_fenced_log.specs.Records.{Record}
use Rattle.hx_fenced_log.specs.Lines.{IsOfLog}
use Rattle.hx_fenced_log.specs.Texts.{spelled, IsTextFault}

-- the texts of records
abbrev pub texts_of : List Record → List ℕ
texts_of [] = []
texts_of (r ∷ rs) = spelled r ++ texts_of rs

-- no record begins in a text, but at its front: after no line feed stands a mark
abbrev pub BeginsNone : List ℕ → Type 0
BeginsNone [] = Unit {0}
BeginsNone (b ∷ text) = (b ≡ line_feed → is_mark text ≡ false) × BeginsNone text

-- a text is cut where its second record begins: a line feed ends the front, and a mark begins the rest
pub record IsCut (text front rest : List ℕ) : Type 0 where
  pub is : text ≡ front ++ rest
  pub ends : (line : List ℕ) × (front ≡ line ++ line_feed ∷ [])
  pub one : BeginsNone front
  pub next : is_mark rest ≡ true

-- these records stand in front of a text, and after each of them another begins: so none lacks a line
pub record AreWhole (text : List ℕ) (rs : List Record) (rest : List ℕ) : Type 0 where
  pub is : text ≡ texts_of rs ++ rest
  pub of_log : AllByRecursion IsOfLog rs
  pub next : rs ≢ [] → is_mark rest ≡ true

-- they are all that are known to be whole: in the rest, no other begins
abbrev pub AreAllWhole : (text : List ℕ) → List Record → (rest : List ℕ) → Type 0
AreAllWhole text rs rest = AreWhole text rs rest × BeginsNone rest

-- after the first `index` whole records, what stands in front of the next one is no record
pub record HasBadPiece (text : List ℕ) (index : ℕ) (error : TextError) : Type 0 where
  pub before : List Record
  pub found : List ℕ
  pub whole : AreWhole text before found
  pub counted : index ≡ length before
  pub piece : List ℕ
  pub later : List ℕ
  pub cut : IsCut found piece later
  pub bad : IsTextFault piece error
  pub known : error ≢ fault.NoMemory

-- why a text has no such records
abbrev pub IsRecordsFault : (text : List ℕ) → RecordsError → Type 0
IsRecordsFault text (refusal.Damaged index error) = HasBadPiece text index error
IsRecordsFault text refusal.NoMemory = Unit {0}

-- these records were taken of a text, or there was no memory for them
abbrev pub AreTaken : Result WholeRecords RecordsError → List Record → Type 0
AreTaken (Ok found) rs = found.records.items ≡ rs
AreTaken (Err error) rs = error ≡ refusal.NoMemory
