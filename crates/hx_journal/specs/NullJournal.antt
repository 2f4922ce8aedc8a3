-- The calls of a journal that stores nothing on a disk.
use Rattle.std.specs.Prelude.{ℕ, zero, suc, List, [], ◌∷◌, ◌++◌}
use Rattle.hx_disk.specs.Calls.{Event}

-- the records that were appended, by calls of the kind 0
abbrev pub appended_in : List Event → List (List ℕ)
appended_in [] = []
appended_in ((zero, offset, ok, bytes) ∷ calls) = appended_in calls ++ bytes ∷ []
appended_in ((suc other, offset, ok, bytes) ∷ calls) = appended_in calls

-- those before the last sync, a call of another kind
abbrev pub durable_in : List Event → List (List ℕ)
durable_in [] = []
durable_in ((zero, offset, ok, bytes) ∷ calls) = durable_in calls
durable_in ((suc other, offset, ok, bytes) ∷ calls) = appended_in calls
