-- The types of messages from a member, as letters (OUCH 4.2, Inbound Messages).
use Rattle.std.specs.Prelude.{ℕ}
use Rattle.hx_units.specs.Letters.{letter}

-- Enter Order: `O`
abbrev pub enter_order : ℕ
enter_order = letter "O"

-- Replace Order: `U`
abbrev pub replace_order : ℕ
replace_order = letter "U"

-- Cancel Order: `X`
abbrev pub cancel_order : ℕ
cancel_order = letter "X"
