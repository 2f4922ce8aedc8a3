-- How long the next login of an address waits.
use Rattle.std.specs.Prelude.{ℕ, zero, suc, ◌^◌, nat_lt, if◌then◌else◌}

-- the longest login back-off, in seconds
abbrev pub longest_backoff : ℕ
longest_backoff = 30

-- a second after one failed login, and twice as long after each more; from the sixth on it is the longest
abbrev pub backoff_after : (failures : ℕ) → ℕ
backoff_after zero = 0
backoff_after (suc n) = if nat_lt n 5 then 2 ^ n else longest_backoff
