-- Which entries are held, and which of them are due.
pub use Rattle.hx_day.specs.declared.expiries.entry.Entry.{Entry}
use Rattle.std.specs.Prelude.{◌≡◌, ◌↔◌, ◌⊎◌, ℕ, ◌<◌, ◌≤◌, List}
use Rattle.std.specs.List.{Contains}
use Rattle.hx_day.specs.Increasing.{AreIncreasing}

-- an entry of this expiry and index is held
unfoldable pub Holds : List Entry → (expiry index : ℕ) → Type 0
Holds entries expiry index = Contains entries (record { expiry = expiry; index = index })

-- no entry is held
abbrev pub HoldsNothing : List Entry → Type 0
HoldsNothing entries = (e p : ℕ) → ¬ Holds entries e p

-- the entry of e and p is the one of this expiry and index
abbrev pub IsEntry : (e p expiry index : ℕ) → Type 0
IsEntry e p expiry index = (e ≡ expiry) × (p ≡ index)

-- what was held is held, and this entry too
abbrev pub HoldsAlso : (old new : List Entry) → (expiry index : ℕ) → Type 0
HoldsAlso old new expiry index =
    (e p : ℕ) → Holds new e p ↔ (Holds old e p ⊎ IsEntry e p expiry index)

-- what was held is held, except for this entry
abbrev pub HoldsOthers : (old new : List Entry) → (expiry index : ℕ) → Type 0
HoldsOthers old new expiry index =
    (e p : ℕ) → Holds new e p ↔ (Holds old e p × (¬ IsEntry e p expiry index))

-- what was held and ends after the time is held
abbrev pub HoldsLater : (old new : List Entry) → (time : ℕ) → Type 0
HoldsLater old new time = (e p : ℕ) → Holds new e p ↔ (Holds old e p × (time < e))

-- an entry of this index is held that ends at the time or before it
abbrev pub IsDue : List Entry → (time index : ℕ) → Type 0
IsDue entries time index = (e : ℕ) × (e ≤ time) × Holds entries e index

-- some entry is held that ends at the time or before it
abbrev pub IsSomeDue : List Entry → (time : ℕ) → Type 0
IsSomeDue entries time = (index : ℕ) × IsDue entries time index

-- these are the indices of the entries that end at the time or before it, each once, in increasing order
pub record AreIndicesUntil (entries : List Entry) (time : ℕ) (indices : List ℕ) : Type 0 where
  pub increasing : AreIncreasing indices
  pub due : (index : ℕ) → Contains indices index ↔ IsDue entries time index
