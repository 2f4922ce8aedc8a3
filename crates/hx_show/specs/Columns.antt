-- Columns of a line of words.
use Rattle.std.specs.Prelude.{ℕ, ◌-◌, List, ◌++◌, length, codes}
use Rattle.hx_units.specs.Spaces.{spaces}

-- what stands between two columns: two spaces
abbrev pub gap : List ℕ
gap = codes "  "

-- a text in a column of this width, filled with spaces on its right, and the gap after it
abbrev pub column : (width : ℕ) (text : List ℕ) → List ℕ
column width text = text ++ (spaces (width - length text) ++ gap)

-- the width of a time of the day: `hh:mm:ss.nnnnnnnnn`
abbrev pub time_width : ℕ
time_width = 18

-- the width of the sender or receiver: `member 4095 reply 1000000`
abbrev pub who_width : ℕ
who_width = 25

-- the width of a message's name: `Add Order with Attribution`
abbrev pub name_width : ℕ
name_width = 26
