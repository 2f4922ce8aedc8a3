-- The names and numbers that a word may be.
use Rattle.std.specs.Prelude.{ℕ, ◌==◌, ◌-◌, ◌^◌, ◌&&◌, nat_lt, nat_le, bytes_eq, if◌then◌else◌, Bool, List, [], ◌∷◌, ◌++◌, length, replicate, Option, Some, None}
use Rattle.std.specs.List.{list_any, list_all}
use Rattle.std.specs.Option.{option_and_then}
use Rattle.std.specs.Fmt.{decimal}
use Rattle.std.specs.Str.Parse.{digits_value}
use Rattle.hx_units.specs.Letters.{space}
use Rattle.hx_units.specs.Limits.{greatest_member}
use Rattle.hx_units.specs.declared.names.Symbol.{Symbol}
use Rattle.hx_members.specs.Setups.{is_visible, is_capital_or_digit}
use Rattle.hx_rules.specs.Hours.{hours_codes}

-- a text of at most `size` characters, filled with spaces on its right
abbrev pub filled : (size : ℕ) → List ℕ → List ℕ
filled size text = text ++ replicate (size - length text) space

-- a text of 1 to `most` characters
abbrev pub is_short : (most : ℕ) → List ℕ → Bool
is_short most text = nat_lt 0 (length text) && nat_le (length text) most

-- a stock's name: 1 to 8 visible characters (OUCH 4.2, ITCH 5.0: field Stock)
abbrev pub symbol_of : List ℕ → Option Symbol
symbol_of word =
    if is_short 8 word && list_all is_visible word
    then Some (record { 0 = filled 8 word })
    else None

-- a reason: 1 to 4 capital letters or digits (ITCH 5.0, Stock Trading Action: Reason)
abbrev pub reason_of : List ℕ → Option (List ℕ)
reason_of word =
    if is_short 4 word && list_all is_capital_or_digit word then Some (filled 4 word) else None

-- a code of the hours (ITCH 5.0, System Event Message: Event Code)
abbrev pub is_hours_code : ℕ → Bool
is_hours_code code = list_any (λ c. c == code) hours_codes

abbrev pub code_of : List ℕ → Option ℕ
code_of [] = None
code_of (code ∷ []) = if is_hours_code code then Some code else None
code_of (code ∷ other ∷ more) = None

-- a number below 10 ^ 14 in decimal: of the texts that write it, the one without noughts in front
abbrev pub number_of : List ℕ → Option ℕ
number_of word =
    if nat_lt (digits_value 10 word) (10 ^ 14) && bytes_eq word (decimal (digits_value 10 word))
    then Some (digits_value 10 word)
    else None

-- the number of a member, from 1
abbrev pub member_among : (number : ℕ) → Option ℕ
member_among number =
    if nat_lt 0 number && nat_le number greatest_member then Some number else None

abbrev pub member_of : List ℕ → Option ℕ
member_of word = option_and_then member_among (number_of word)
