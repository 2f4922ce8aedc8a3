-- The codes of the hours (ITCH 5.0, System Event Message).
use Rattle.std.specs.Prelude.{ℕ, zero, suc, List, [], ◌∷◌, Option, None, slice_get}
use Rattle.hx_units.specs.Letters.{letter}
use Rattle.hx_metrics.specs.declared.phase.Hours.{Hours}
use Rattle.hx_metrics.specs.declared.phase.Hours.TheVariants.{StartOfMessages, StartOfSystemHours, StartOfMarketHours, EndOfMarketHours, EndOfSystemHours, EndOfMessages}

-- in their order
abbrev pub codes_of_a_day : List Hours
codes_of_a_day =
    StartOfMessages ∷ StartOfSystemHours ∷ StartOfMarketHours
    ∷ EndOfMarketHours ∷ EndOfSystemHours ∷ EndOfMessages ∷ []

-- the last of the first codes of the day, by their number
abbrev pub last_of : ℕ → Option Hours
last_of zero = None
last_of (suc before) = slice_get codes_of_a_day before

abbrev pub letter_of : Hours → ℕ
letter_of StartOfMessages = letter "O"
letter_of StartOfSystemHours = letter "S"
letter_of StartOfMarketHours = letter "Q"
letter_of EndOfMarketHours = letter "M"
letter_of EndOfSystemHours = letter "E"
letter_of EndOfMessages = letter "C"
