-- Numbers with their units, and names, in words.
use Rattle.std.specs.Prelude.{ℕ, ◌-◌, ◌/◌, ◌%◌, ◌==◌, ◌&&◌, nat_le, if◌then◌else◌, List, ◌++◌, length, map, replicate, codes}
use Rattle.std.specs.Fmt.{decimal}
use Rattle.hx_units.specs.Letters.{letter}
use Rattle.hx_units.specs.Spaces.{trimmed}

-- a number in decimal with at least `width` digits, filled with noughts in front
abbrev pub zero_filled : (width number : ℕ) → List ℕ
zero_filled width number =
    replicate (width - length (decimal number)) (letter "0") ++ decimal number

-- nanoseconds since midnight as hours, minutes, seconds and nanoseconds: `hh:mm:ss.nnnnnnnnn`
abbrev pub time_of_day : (nanoseconds : ℕ) → List ℕ
time_of_day t =
    zero_filled 2 (t / 3600000000000)
    ++ (codes ":" ++ (zero_filled 2 (t / 60000000000 % 60)
    ++ (codes ":" ++ (zero_filled 2 (t / 1000000000 % 60)
    ++ (codes "." ++ zero_filled 9 (t % 1000000000))))))

-- a number of shares
abbrev pub shares_words : ℕ → List ℕ
shares_words n = decimal n ++ codes " shares"

-- units of 1/10,000 dollar as dollars (OUCH 4.2 and ITCH 5.0, Data Types: Price)
abbrev pub dollars_words : ℕ → List ℕ
dollars_words n =
    decimal (n / 10000) ++ (codes "." ++ (zero_filled 4 (n % 10000) ++ codes " dollars"))

-- a byte as it is written: itself if it is printable ASCII, else a question mark
abbrev pub printable : ℕ → ℕ
printable b = if nat_le 32 b && nat_le b 126 then b else letter "?"

-- a name without the spaces that fill it, or `blank`
abbrev pub name_words : List ℕ → List ℕ
name_words name =
    if length (trimmed name) == 0 then codes "blank" else map printable (trimmed name)
