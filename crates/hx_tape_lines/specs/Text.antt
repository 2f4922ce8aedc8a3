-- The text of a tape.
use Rattle.std.specs.Prelude.{◌≡◌, ◌⊎◌, ℕ, ◌^◌, ◌<◌, ◌≤◌, List, [], ◌∷◌, ◌++◌, length, Bool, true, nat_lt, ◌&&◌, if◌then◌else◌}
use Rattle.std.specs.List.{AllByRecursion, flat_map}
use Rattle.std.specs.Fmt.{decimal}
use Rattle.hex.specs.Hex.{encode_lower, IsBytes}
use Rattle.hx_units.specs.Letters.{letter, space, line_feed}
use Rattle.hx_rules.specs.declared.event.Event.{Event}
use Rattle.hx_rules.specs.declared.event.Event.TheVariants.{Message, Tick, Hours, Halt, Break}
use Rattle.hx_rules.specs.OperatorMessages.{halt_bytes, break_bytes}
use Rattle.hx_tape_lines.specs.declared.line.Fields.{Fields}

-- what a line says: the time, the member's number and the bytes of its message
pub record Entry : Type 0 where
  pub time : ℕ
  pub member : ℕ
  pub bytes : List ℕ

abbrev pub entry_of : Fields → Entry
entry_of e = record { time = e.time; member = e.member; bytes = e.bytes.now }

-- what a line says of an event: the operator's events are of member 0, each by its bytes
abbrev pub entry_of_event : Event → Entry
entry_of_event (Message member time bytes) = record { time = time; member = member; bytes = bytes }
entry_of_event (Tick time) = record { time = time; member = 0; bytes = 75 ∷ [] }
entry_of_event (Hours time code) = record { time = time; member = 0; bytes = code ∷ [] }
entry_of_event (Halt time stock state reason) =
    record { time = time; member = 0; bytes = halt_bytes stock state reason }
entry_of_event (Break time number) =
    record { time = time; member = 0; bytes = break_bytes number }

-- the most bytes of a message
abbrev pub most_bytes : ℕ
most_bytes = 1023

-- what has a line: a time of 14 digits at most, a member of 4, and 1 to 1,023 bytes
pub record IsEntry (e : Entry) : Type 0 where
  pub time : e.time < 10 ^ 14
  pub member : e.member < 10 ^ 4
  pub some : 0 < length e.bytes
  pub few : length e.bytes ≤ most_bytes
  pub are_bytes : IsBytes e.bytes

-- its one line, without the line feed
abbrev pub line : Entry → List ℕ
line e = decimal e.time ++ space ∷ (decimal e.member ++ space ∷ encode_lower e.bytes)

-- the text of a tape: its lines, each with its line feed
abbrev pub tape : List Entry → List ℕ
tape entries = flat_map (λ e. line e ++ line_feed ∷ []) entries

-- all are below a bound
abbrev pub all_below : ℕ → List ℕ → Bool
all_below bound [] = true
all_below bound (n ∷ ns) = nat_lt n bound && all_below bound ns

-- the numbers of an entry are such as its fields hold: 64 bits, 16 bits, bytes
abbrev pub is_held : Entry → Bool
is_held e = nat_lt e.time (2 ^ 64) && nat_lt e.member (2 ^ 16) && all_below 256 e.bytes

-- The record of an event: its line, without the line feed. That of an event which no field holds, and so no program has, is
-- a lone 0, so that what is said of records holds of every event.
unfoldable pub record_of : Event → List ℕ
record_of event =
    if is_held (entry_of_event event) then line (entry_of_event event) else letter "0" ∷ []

-- a decimal digit by its code
abbrev pub IsDigit : ℕ → Type 0
IsDigit b = (letter "0" ≤ b) × (b ≤ letter "9")

-- a byte of a record: a space, a decimal digit, or a letter a to f
abbrev pub IsSpelled : ℕ → Type 0
IsSpelled b = (b ≡ space) ⊎ (IsDigit b ⊎ ((letter "a" ≤ b) × (b ≤ letter "f")))

-- a decimal digit stands first
abbrev pub BeginsWithDigit : List ℕ → Type 0
BeginsWithDigit [] = ⊥
BeginsWithDigit (b ∷ bytes) = IsDigit b

-- what the bytes of a record are: such bytes alone, and a decimal digit first
pub record IsPlain (text : List ℕ) : Type 0 where
  pub spelled : AllByRecursion IsSpelled text
  pub first : BeginsWithDigit text

-- a front of the bytes, all of them or fewer, comes after the text that was there before
pub record HasGrown (old new bytes : List ℕ) : Type 0 where
  pub front : List ℕ
  pub rest : List ℕ
  pub new_is : new ≡ old ++ front
  pub bytes_are : bytes ≡ front ++ rest

-- the text is a time, a member's number, and up to 2,046 digits
pub record HasParts (text : List ℕ) (t m : ℕ) (digits : List ℕ) : Type 0 where
  pub text_is : text ≡ decimal t ++ space ∷ (decimal m ++ space ∷ digits)
  pub time : t < 10 ^ 14
  pub member : m < 10 ^ 4
  pub some : 0 < length digits
  pub few : length digits ≤ 2046

-- the bytes of the longest line: 14 digits, 4, and those of 1,023 bytes, with a space after each number
abbrev pub longest_line : ℕ
longest_line = 2066
