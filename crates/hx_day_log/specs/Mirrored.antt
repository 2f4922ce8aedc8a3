-- A journal beside the log of a day.
use Rattle.std.specs.Prelude.{ℕ, List, Bool, ◌++◌, length, drop, map}
use Rattle.hx_tape_lines.specs.Text.{record_of}
use Rattle.hx_rules.specs.declared.event.Event.{Event}
use Rattle.hx_fenced_log.specs.Mirrors.{Mirrors}

-- It has the records of the applied events, and after them those of the events that it had before and that are still to
-- be applied.
abbrev pub IsBeside : {M : Type 0} → (appended durable : M → List (List ℕ)) → (M → Bool) → M
    → (had applied : List Event) → Type 0
IsBeside appended durable is_open mirror had applied = Mirrors appended durable is_open mirror
    (map record_of applied ++ map record_of (drop (length applied) had))
