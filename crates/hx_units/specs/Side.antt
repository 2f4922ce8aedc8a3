-- The sides of an order (OUCH 4.2, Enter Order: Buy/Sell Indicator).
use Rattle.std.specs.Prelude.{ℕ, Bool, true, false}
use Rattle.hx_units.specs.declared.side.Side.{Side}
use Rattle.hx_units.specs.declared.side.Side.TheVariants.{Buy, Sell, Short, ShortExempt}
use Rattle.hx_units.specs.Letters.{letter}

-- the letter that stands for a side
abbrev pub letter_of : Side → ℕ
letter_of Buy = letter "B"
letter_of Sell = letter "S"
letter_of Short = letter "T"
letter_of ShortExempt = letter "E"

-- whether an order of this side buys; the others sell
abbrev pub is_buy : Side → Bool
is_buy Buy = true
is_buy Sell = false
is_buy Short = false
is_buy ShortExempt = false
