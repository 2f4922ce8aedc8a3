-- A log in memory.
use Rattle.std.specs.Prelude.{◌≡◌, ℕ, ◌+◌, ◌<◌, ◌≤◌, List, length}
use Rattle.hx_fenced_log.specs.Records.{Record}
use Rattle.hx_fenced_log.specs.declared.log.error.LogError.{LogError}
use Rattle.hx_fenced_log.specs.declared.log.error.LogError.TheVariants.{Taken, Gap, Unknown, Unreachable, NoRecord, Trimmed, BadCopy, NoMemory}

-- why it does not append a record of this number
abbrev pub IsNoAppend : (log : List Record) → (number : ℕ) → LogError → Type 0
IsNoAppend log number Taken = number ≤ length log
IsNoAppend log number Gap = length log + 1 < number
IsNoAppend log number Unknown = ⊥
IsNoAppend log number Unreachable = ⊥
IsNoAppend log number (NoRecord other) = ⊥
IsNoAppend log number (Trimmed other) = ⊥
IsNoAppend log number (BadCopy other) = ⊥
IsNoAppend log number NoMemory = number ≡ length log + 1
