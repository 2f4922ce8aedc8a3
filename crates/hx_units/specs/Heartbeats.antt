-- When a heartbeat is due (MoldUDP64 1.00, Heartbeats; SoupBinTCP 3.00, Heartbeats).
use Rattle.std.specs.Prelude.{ℕ, ◌+◌, ◌||◌, nat_lt, nat_le, Bool}
use Rattle.hx_units.specs.Limits.{silence}

-- whether a heartbeat is due: a second went by since the last packet, or the clock went back
abbrev pub is_due : (last now : ℕ) → Bool
is_due last now = nat_lt now last || nat_le (last + silence) now
