-- How a line is spelled that says something.
use Rattle.std.specs.Prelude.{ℕ, ◌^◌, ◌<◌, ◌≤◌, List, ◌∷◌, ◌++◌, length, codes}
use Rattle.std.specs.Fmt.{decimal}
use Rattle.hex.specs.Hex.{encode_lower, IsBytes}
use Rattle.hx_units.specs.Letters.{space}
use Rattle.hx_show.specs.declared.line.Head.{Head}
use Rattle.hx_show.specs.declared.line.Head.TheVariants as head

-- its numbers are those of a line: a time and a count have 14 digits at most, a sender has 4
abbrev pub IsHead : Head → Type 0
IsHead (head.Sent time member) = (time < 10 ^ 14) × (member < 10 ^ 4)
IsHead (head.OfFeed number) = number < 10 ^ 14
IsHead (head.ToMember member number) = (member < 10 ^ 14) × (number < 10 ^ 14)

-- the bytes are a message's: 1 to 1,023
pub record IsMessage (bytes : List ℕ) : Type 0 where
  pub some : 0 < length bytes
  pub few : length bytes ≤ 1023
  pub are_bytes : IsBytes bytes

-- its one line: of a tape, or of the output of a replay
abbrev pub spelling : Head → List ℕ → List ℕ
spelling (head.Sent time member) bytes =
    decimal time ++ space ∷ (decimal member ++ space ∷ encode_lower bytes)
spelling (head.OfFeed number) bytes =
    codes "F " ++ (decimal number ++ space ∷ encode_lower bytes)
spelling (head.ToMember member number) bytes =
    codes "M " ++ (decimal member ++ space ∷ (decimal number ++ space ∷ encode_lower bytes))
