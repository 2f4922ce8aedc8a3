-- Times of the day in text: HH:MM:SS in UTC, or with the offset from UTC of the clock that showed it
-- (RFC 3339, 5.6: partial-time without a fraction, time-offset).
use Rattle.std.specs.Prelude.{ℕ, ◌+◌, ◌-◌, ◌*◌, ◌==◌, ◌&&◌, ◌||◌, not, nat_lt, nat_le, if◌then◌else◌, Bool, List, length, slice_index, Result, Ok, Err}
use Rattle.std.specs.Char.{is_ascii_digit}
use Rattle.hx_units.specs.Letters.{letter}
use Rattle.hx_operator.specs.declared.entry.Wrong.{Wrong}
use Rattle.hx_operator.specs.declared.entry.Wrong.TheVariants as wrong

-- the number that the two digits at an index write
abbrev pub number_at : List ℕ → (index : ℕ) → ℕ
number_at text index =
    10 * (slice_index text index - letter "0") + (slice_index text (index + 1) - letter "0")

-- two digits stand at the index, and their number is below a bound
abbrev pub is_number_at : (bound : ℕ) → List ℕ → (index : ℕ) → Bool
is_number_at bound text index =
    is_ascii_digit (slice_index text index) && is_ascii_digit (slice_index text (index + 1))
    && nat_lt (number_at text index) bound

abbrev pub is_colon_at : List ℕ → (index : ℕ) → Bool
is_colon_at text index = slice_index text index == letter ":"

-- HH:MM:SS stands in front
abbrev pub begins_with_clock : List ℕ → Bool
begins_with_clock text =
    nat_le 8 (length text) && is_number_at 24 text 0 && is_colon_at text 2
    && is_number_at 60 text 3 && is_colon_at text 5 && is_number_at 60 text 6

-- the seconds since midnight that this clock shows
abbrev pub clock_seconds : List ℕ → ℕ
clock_seconds text = 3600 * number_at text 0 + 60 * number_at text 3 + number_at text 6

-- nothing more follows, or Z: the clock shows UTC
abbrev pub is_utc : List ℕ → Bool
is_utc text = (length text == 8) || ((length text == 9) && (slice_index text 8 == letter "Z"))

-- +HH:MM or -HH:MM follows: the clock is ahead of UTC, or lags it
abbrev pub has_offset : List ℕ → Bool
has_offset text =
    (length text == 14) && (slice_index text 8 == letter "+" || slice_index text 8 == letter "-")
    && is_number_at 24 text 9 && is_colon_at text 11 && is_number_at 60 text 12

abbrev pub offset_seconds : List ℕ → ℕ
offset_seconds text = 3600 * number_at text 9 + 60 * number_at text 12

abbrev pub day_seconds : ℕ
day_seconds = 86400

-- the seconds since midnight in UTC, if that is of the same day
abbrev pub shifted : (is_ahead : Bool) → (offset seconds : ℕ) → Result ℕ Wrong
shifted is_ahead offset seconds =
    if is_ahead
    then (if nat_le offset seconds then Ok (seconds - offset) else Err wrong.OtherDay)
    else (if nat_lt (seconds + offset) day_seconds then Ok (seconds + offset)
    else Err wrong.OtherDay)

-- the seconds since midnight in UTC of a time in text
abbrev pub time_of : List ℕ → Result ℕ Wrong
time_of text =
    if not (begins_with_clock text) then Err wrong.NoTime
    else if is_utc text then Ok (clock_seconds text)
    else if has_offset text
    then shifted (slice_index text 8 == letter "+") (offset_seconds text) (clock_seconds text)
    else Err wrong.NoTime
