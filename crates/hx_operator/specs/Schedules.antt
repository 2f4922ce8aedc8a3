-- A schedule: the codes of the hours, each at its time of the day.
use Rattle.std.specs.Prelude.{◌≡◌, ℕ, ◌+◌, ◌*◌, ◌==◌, ◌&&◌, nat_lt, nat_le, if◌then◌else◌, Bool, true, List, [], ◌∷◌, ◌++◌, length, Option, Some, None, Result, Ok, Err, is_none, is_ok}
use Rattle.std.specs.List.{flat_map, position_or_len, before_first, list_all}
use Rattle.hx_rules.specs.Hours.{hours_codes}
use Rattle.hx_operator.specs.declared.entry.Entry.{Entry}
use Rattle.hx_operator.specs.declared.entry.Wrong.{Wrong}
use Rattle.hx_operator.specs.declared.entry.Wrong.TheVariants as wrong
use Rattle.hx_operator.specs.declared.schedule.ScheduleError.{ScheduleError}
use Rattle.hx_operator.specs.declared.schedule.ScheduleError.TheVariants as fault
use Rattle.hx_operator.specs.Marks.{is_hash, words_of, lines_of}
use Rattle.hx_operator.specs.Names.{code_of}
use Rattle.hx_operator.specs.Times.{time_of}

-- ---- A line

-- the nanoseconds of a second
abbrev pub second : ℕ
second = 1000000000

abbrev pub entry_at : Result ℕ Wrong → Option ℕ → Result (Option Entry) Wrong
entry_at (Err e) code = Err e
entry_at (Ok seconds) None = Err wrong.NoCode
entry_at (Ok seconds) (Some code) =
    Ok (Some (record { time = seconds * second; code = code }))

-- a time and a code; no word says nothing
abbrev pub entry_of_words : List (List ℕ) → Result (Option Entry) Wrong
entry_of_words [] = Ok None
entry_of_words (time ∷ []) = Err wrong.MissingCode
entry_of_words (time ∷ code ∷ []) = entry_at (time_of time) (code_of code)
entry_of_words (time ∷ code ∷ other ∷ more) = Err wrong.TooMany

-- what a line says, without its comment
abbrev pub entry_of : List ℕ → Result (Option Entry) Wrong
entry_of line = entry_of_words (words_of (before_first is_hash line))

-- ---- The order of the day

-- the index of a code among O, S, Q, M, E and C
abbrev pub index_of : (code : ℕ) → ℕ
index_of code = position_or_len (λ c. c == code) hours_codes

-- what is wrong with an entry after another one
abbrev pub fault_later : Entry → Entry → Option Wrong
fault_later last next =
    if nat_le (index_of next.code) (index_of last.code) then Some wrong.OutOfOrder
    else if nat_lt next.time last.time then Some wrong.Early
    else None

-- what is wrong with an entry after these: the last of them decides
abbrev pub fault_after : List Entry → Entry → Option Wrong
fault_after [] next = None
fault_after (last ∷ []) next = fault_later last next
fault_after (entry ∷ other ∷ more) next = fault_after (other ∷ more) next

-- each entry may stand after the one before it
abbrev pub are_in_order : List Entry → Bool
are_in_order [] = true
are_in_order (entry ∷ []) = true
are_in_order (entry ∷ other ∷ more) =
    is_none (fault_later entry other) && are_in_order (other ∷ more)

-- ---- A text

abbrev pub said : Result (Option Entry) Wrong → List Entry
said (Err e) = []
said (Ok None) = []
said (Ok (Some entry)) = entry ∷ []

-- what lines say, those that cannot be read left out
abbrev pub entries_of : List (List ℕ) → List Entry
entries_of lines = flat_map (λ line. said (entry_of line)) lines

-- lines that can all be read, whose entries are in order
pub record AreOfSchedule (lines : List (List ℕ)) (entries : List Entry) : Type 0 where
  pub readable : list_all (λ line. is_ok (entry_of line)) lines ≡ true
  pub entries_are : entries ≡ entries_of lines
  pub in_order : are_in_order entries ≡ true

-- what is wrong with a line after those that say these entries
abbrev pub fault_of : List Entry → Result (Option Entry) Wrong → Option Wrong
fault_of entries (Err e) = Some e
fault_of entries (Ok None) = None
fault_of entries (Ok (Some next)) = fault_after entries next

-- the first line that is wrong, by its number, from 1
pub record IsFirstFault (lines : List (List ℕ)) (number : ℕ) (fault : Wrong) : Type 0 where
  pub before : List (List ℕ)
  pub bad : List ℕ
  pub after : List (List ℕ)
  pub lines_are : lines ≡ before ++ bad ∷ after
  pub number_is : number ≡ length before + 1
  pub entries : List Entry
  pub of_schedule : AreOfSchedule before entries
  pub fault_is : fault_of entries (entry_of bad) ≡ Some fault

-- what is wrong with a text from which no schedule was read
abbrev pub IsFault : List ℕ → ScheduleError → Type 0
IsFault text (fault.Line number wrong) = IsFirstFault (lines_of text) number wrong
IsFault text fault.NoMemory = Unit {0}

-- ---- What is due

-- the code that is due at a time of the day
abbrev pub due_of : (now : ℕ) → List Entry → Option ℕ
due_of now [] = None
due_of now (entry ∷ entries) = if nat_le entry.time now then Some entry.code else None

-- what is left of the schedule then
abbrev pub left_of : (now : ℕ) → List Entry → List Entry
left_of now [] = []
left_of now (entry ∷ entries) =
    if nat_le entry.time now then entries else entry ∷ entries

-- what is left of a schedule if the first `past` codes of the day are past
abbrev pub after_past : (past : ℕ) → List Entry → List Entry
after_past past [] = []
after_past past (entry ∷ entries) =
    if nat_lt (index_of entry.code) past then after_past past entries else entry ∷ entries
