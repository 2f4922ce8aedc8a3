-- What the fields of an order mean (OUCH 4.2, Enter Order).
use Rattle.std.specs.Prelude.{ℕ, Option, Some, None, ◌+◌, ◌*◌, Bool, if◌then◌else◌, ◌==◌, ◌&&◌, ◌||◌, not, nat_le}
pub use Rattle.hx_book.specs.declared.order.Order.{Order}
pub use Rattle.hx_book.specs.declared.order.Life.{Life}
use Rattle.hx_book.specs.declared.order.Life.TheVariants.{Market, System, Until}
pub use Rattle.hx_units.specs.declared.names.Token.{Token}
pub use Rattle.hx_units.specs.declared.side.Side.{Side}
use Rattle.hx_units.specs.declared.side.Side.TheVariants.{Buy, Sell, Short, ShortExempt}
use Rattle.hx_units.specs.Names.{is_token}
use Rattle.hx_units.specs.Side.{is_buy, letter_of}
use Rattle.hx_rules.specs.Letters.{attributable, anonymous, non_display}
use Rattle.hx_rules.specs.Limits.{immediate, most_seconds, market_hours, second}

-- whether the letter is that of a side (Buy/Sell Indicator)
abbrev pub is_side : ℕ → Bool
is_side letter =
    letter == letter_of Buy || (letter == letter_of Sell
    || (letter == letter_of Short || letter == letter_of ShortExempt))

-- the side of such a letter
abbrev pub side_of : ℕ → Side
side_of letter =
    if letter == letter_of Buy then Buy
    else (if letter == letter_of Sell then Sell
    else (if letter == letter_of Short then Short
    else ShortExempt))

-- whether an order of this display is shown when it rests (Display)
abbrev pub is_visible : ℕ → Bool
is_visible display = display == anonymous || display == attributable

-- whether the letter is that of a display
abbrev pub is_display : ℕ → Bool
is_display display = is_visible display || display == non_display

-- whether an order of this time in force never rests: immediate or cancel (Time in Force)
abbrev pub is_immediate : ℕ → Bool
is_immediate time_in_force = time_in_force == immediate

-- whether an order is shown: its display is visible, and it may rest
abbrev pub is_shown : (display time_in_force : ℕ) → Bool
is_shown display time_in_force = is_visible display && not (is_immediate time_in_force)

-- the life of an order that comes at a time: `time_in_force` seconds, the market hours, or else the system hours (Time
-- in Force)
abbrev pub life_of : (time time_in_force : ℕ) → Life
life_of time time_in_force =
    if nat_le 1 time_in_force && nat_le time_in_force most_seconds
    then Until (time + time_in_force * second)
    else (if time_in_force == market_hours then Market else System)

-- when an order of this life ends, if that is a time
abbrev pub expiry_of : Life → Option ℕ
expiry_of Market = None
expiry_of System = None
expiry_of (Until expiry) = Some expiry

-- the side as the feed has it: each kind of sale is a sale (ITCH 5.0, Add Order: Buy/Sell
-- Indicator)
abbrev pub published_side : Side → ℕ
published_side side = if is_buy side then letter_of Buy else letter_of Sell

-- whether the order is the one that the member calls by this token (Order Token)
abbrev pub is_called : (member : ℕ) → Token → Order → Bool
is_called member token x = x.member == member && is_token x.token token
