-- Letters, as the numbers of their bytes.
use Rattle.std.specs.Prelude.{ℕ}
use Prim.Native.Char.{Char, code}

-- the number of a letter's byte (OUCH 4.2, ITCH 5.0 and SoupBinTCP 3.00: letters are ASCII)
abbrev pub letter : Char → ℕ
letter character = code character

-- the byte that ends a line
abbrev pub line_feed : ℕ
line_feed = letter "\n"

-- the byte that fills a text on its right or left
abbrev pub space : ℕ
space = letter " "
