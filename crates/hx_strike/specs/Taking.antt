-- A tape whose lines are taken by an audit as they are read.
use Rattle.std.specs.Prelude.{◌≡◌, List, [], ◌∷◌, ◌++◌, map, Option, ℕ}
use Rattle.std.specs.List.{AllByRecursion}
use Rattle.hx_rules.specs.declared.event.Event.{Event}
use Rattle.hx_market.specs.QuietChains.{Choice, bears}
use Rattle.hx_audit.specs.Auditing.{Audit, HasTaken, is_borne}
use Rattle.hx_audit.specs.declared.bearing.Bearing.{Bearing}
use Rattle.hx_replay.specs.declared.fault.TapeError.{TapeError}
use Rattle.hx_replay.specs.declared.fault.TapeError.TheVariants as fault
use Rattle.hx_members.specs.Setups.{Setup}
use Rattle.hx_tape_lines.specs.Text.{Entry, tape}
use Rattle.hx_tape_lines.specs.Events.{event_of, IsKnown}
use Rattle.hx_replay.specs.FirstFaults.{FirstFault, StopsBefore, ReadsSome}

-- what each of these events bears
abbrev pub AreBearings : List Event → List Bearing → Type 0
AreBearings [] [] = Unit {0}
AreBearings [] (b ∷ bearings) = ⊥
AreBearings (event ∷ events) [] = ⊥
AreBearings (event ∷ events) (b ∷ bearings) =
    ((choice : Choice) → is_borne choice b ≡ bears choice event) × AreBearings events bearings

-- the text is a tape, and these are the tokens that its lines bear
pub record IsTape (text : List ℕ) (bearings : List Bearing) : Type 0 where
  pub entries : List Entry
  pub are_known : AllByRecursion IsKnown entries
  pub bearings_are : AreBearings (map event_of entries) bearings
  pub text_is : text ≡ tape entries

-- the text is whole lines, which the audit has taken, with the tokens that they bear, and a rest
pub record Takes (audit : Audit) (bearings : List Bearing) (text rest : List ℕ) : Type 0 where
  pub entries : List Entry
  pub are_known : AllByRecursion IsKnown entries
  pub taken : HasTaken audit (map event_of entries)
  pub bearings_are : AreBearings (map event_of entries) bearings
  pub text_is : text ≡ tape entries ++ rest

-- why the lines of a text are not taken: the first line that fails a check, or want of memory
abbrev pub IsFaultOf : (End : Type 0) → Setup → List ℕ → TapeError → Type 0
IsFaultOf End setup text (fault.Line n k) = FirstFault End setup n k text
IsFaultOf End setup text fault.NoMemory = Unit {0}
IsFaultOf End setup text fault.Read = ⊥
IsFaultOf End setup text fault.Write = ⊥
IsFaultOf End setup text fault.Turns = ⊥

-- why a tape was not read: a line that fails a check, want of memory, or the reader
abbrev pub StopsReading : Setup → TapeError → (r s : Option (List ℕ)) → Type 0
StopsReading setup (fault.Line n k) r s = StopsBefore setup n k r s
StopsReading setup fault.NoMemory r s = ReadsSome r s
StopsReading setup fault.Read r s = ReadsSome r s
StopsReading setup fault.Turns r s = ReadsSome r s
StopsReading setup fault.Write r s = ⊥
