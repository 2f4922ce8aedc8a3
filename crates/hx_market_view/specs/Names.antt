-- Names, as a web page shows them.
use Rattle.std.specs.Prelude.{ℕ, ◌&&◌, ◌==◌, not, nat_le, if◌then◌else◌, List, map}
use Rattle.std.specs.List.{filter}
use Rattle.hx_units.specs.Letters.{letter}

-- a byte as it is shown: a visible letter of ASCII (RFC 20, columns 2 to 7) as itself, any other as
-- a dot
abbrev pub shown_byte : ℕ → ℕ
shown_byte b = if nat_le (letter "!") b && nat_le b (letter "~") then b else letter "."

-- a name without its spaces
abbrev pub shown_name : List ℕ → List ℕ
shown_name name = map shown_byte (filter (λ b. not (b == letter " ")) name)
