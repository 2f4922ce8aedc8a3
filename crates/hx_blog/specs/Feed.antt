-- The entries of the log, and their feed.
use Rattle.std.specs.Prelude.{ℕ, List, [], ◌++◌, ◌∷◌}

-- A list of entries: each is an event with its messages, of which there may be none.
abbrev pub Entries : Type 0 → Type 0
Entries E = List (E × List (List ℕ))

-- the messages of all entries, in order
abbrev pub feed : {E : Type 0} → Entries E → List (List ℕ)
feed [] = []
feed (entry ∷ entries) = entry.1 ++ feed entries
