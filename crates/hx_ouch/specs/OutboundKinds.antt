-- The types of replies to a member, as letters (OUCH 4.2, Outbound Messages).
use Rattle.std.specs.Prelude.{ℕ}
use Rattle.hx_units.specs.Letters.{letter}

-- System Event: `S`
abbrev pub system_event : ℕ
system_event = letter "S"

-- Accepted: `A`
abbrev pub accepted : ℕ
accepted = letter "A"

-- Replaced: `U`
abbrev pub replaced : ℕ
replaced = letter "U"

-- Canceled: `C`
abbrev pub canceled : ℕ
canceled = letter "C"

-- Executed: `E`
abbrev pub executed : ℕ
executed = letter "E"

-- Rejected: `J`
abbrev pub rejected : ℕ
rejected = letter "J"

-- Broken Trade: `B`
abbrev pub broken_trade : ℕ
broken_trade = letter "B"
