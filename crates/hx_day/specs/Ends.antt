-- When orders end: what stays entered.
use Rattle.std.specs.Prelude.{◌≡◌, ℕ, List, Option, Some, None}
use Rattle.hx_day.specs.declared.expiries.entry.Entry.{Entry}
use Rattle.hx_day.specs.Expiries.{Holds, HoldsLater}

-- what is entered under other indices stays
abbrev pub StaysElsewhere : (index : ℕ) → (old new : List Entry) → Type 0
StaysElsewhere index old new = (e p : ℕ) → (p ≡ index → ⊥) → Holds old e p → Holds new e p

-- what stays entered once orders end until a time, if they do: what ends later
abbrev pub StaysAfter : (until : Option ℕ) → (old new : List Entry) → Type 0
StaysAfter None old new = new ≡ old
StaysAfter (Some time) old new = HoldsLater old new time
