-- What the letters of fields mean, in words; nothing if a letter means nothing.
use Rattle.std.specs.Prelude.{ℕ, ◌==◌, if◌then◌else◌, List, [], codes}
use Rattle.hx_units.specs.Letters.{letter}
use Rattle.hx_show.specs.declared.label.Label.{Label}
use Rattle.hx_show.specs.declared.label.Label.TheVariants as label

-- OUCH 4.2 and ITCH 5.0: Buy/Sell Indicator
abbrev pub side : ℕ → List ℕ
side c =
    if c == letter "B" then codes "buy"
    else if c == letter "S" then codes "sell"
    else if c == letter "T" then codes "sell short"
    else if c == letter "E" then codes "sell short exempt"
    else []

-- OUCH 4.2, Executed: Liquidity Flag
abbrev pub liquidity : ℕ → List ℕ
liquidity c =
    if c == letter "A" then codes "added"
    else if c == letter "J" then codes "added hidden"
    else if c == letter "R" then codes "removed"
    else []

-- OUCH 4.2, Canceled: Reason
abbrev pub cancel_reason : ℕ → List ℕ
cancel_reason c =
    if c == letter "U" then codes "by the member"
    else if c == letter "I" then codes "immediate or cancel"
    else if c == letter "T" then codes "timeout"
    else []

-- OUCH 4.2, Rejected: Reason
abbrev pub reject_reason : ℕ → List ℕ
reject_reason c =
    if c == letter "C" then codes "market closed"
    else if c == letter "S" then codes "no such stock"
    else if c == letter "H" then codes "stock halted"
    else if c == letter "O" then codes "side or cross type"
    else if c == letter "D" then codes "no such display"
    else if c == letter "Z" then codes "shares out of range"
    else if c == letter "X" then codes "price out of range"
    else if c == letter "N" then codes "minimum not allowed"
    else []

-- OUCH 4.2, Broken Trade: Reason
abbrev pub break_reason : ℕ → List ℕ
break_reason c = if c == letter "S" then codes "by the exchange" else []

-- OUCH 4.2, System Event: Event Code
abbrev pub day_event : ℕ → List ℕ
day_event c =
    if c == letter "S" then codes "start of day"
    else if c == letter "E" then codes "end of day"
    else []

-- ITCH 5.0, System Event: Event Code
abbrev pub hours_event : ℕ → List ℕ
hours_event c =
    if c == letter "O" then codes "start of messages"
    else if c == letter "S" then codes "start of system hours"
    else if c == letter "Q" then codes "start of market hours"
    else if c == letter "M" then codes "end of market hours"
    else if c == letter "E" then codes "end of system hours"
    else if c == letter "C" then codes "end of messages"
    else []

-- ITCH 5.0, Stock Trading Action: Trading State
abbrev pub trading_state : ℕ → List ℕ
trading_state c =
    if c == letter "H" then codes "halted"
    else if c == letter "T" then codes "trading"
    else []

-- what a letter means in the field of this label
abbrev pub meaning : Label → ℕ → List ℕ
meaning label.Side c = side c
meaning label.Liquidity c = liquidity c
meaning label.CancelReason c = cancel_reason c
meaning label.RejectReason c = reject_reason c
meaning label.BreakReason c = break_reason c
meaning label.DayEvent c = day_event c
meaning label.HoursEvent c = hours_event c
meaning label.TradingState c = trading_state c
meaning other c = []
