-- The calls on a file, and what they leave of it.
use Rattle.std.specs.Prelude.{◌≡◌, ◌⊎◌, ℕ, zero, suc, ◌+◌, ◌≤◌, Bool, true, false, ◌==◌, List, [], ◌∷◌, ◌++◌, length, take, drop, slice_index}
use mathlib.Core.Logic.{inl, inr}
use Rattle.std.proofs.Common.{arith}
use Rattle.hx_disk.specs.Device.{Mixed, Cut}

-- A call with its answer: which call (0 opens the file, 1 writes, 2 cuts it, 3 syncs it), an offset
-- or a length, whether it succeeded, and bytes. Calls stand in a list, the newest first.
abbrev pub Event : Type 0
Event = ℕ × ℕ × Bool × List ℕ

abbrev pub event_of : List ℕ → List ℕ → Event
event_of numbers bytes =
    (slice_index numbers 0, slice_index numbers 1, slice_index numbers 2 == 1, bytes)

-- how many calls have failed
abbrev pub faults_of : List Event → ℕ
faults_of [] = 0
faults_of ((kind, offset, true, bytes) ∷ calls) = faults_of calls
faults_of ((kind, offset, false, bytes) ∷ calls) = suc (faults_of calls)

-- What its reader sees of a file, once this call succeeded.
abbrev pub seen_by : (kind : ℕ) → (at : ℕ) → (bytes : List ℕ) → (file : List ℕ) → List ℕ
seen_by zero offset bytes file = bytes
seen_by (suc zero) at bytes file = take at file ++ bytes ++ drop (at + length bytes) file
seen_by (suc (suc zero)) len bytes file = take len file
seen_by (suc (suc (suc other))) offset bytes file = file

abbrev pub seen_of : List Event → List ℕ
seen_of [] = []
seen_of ((kind, offset, true, bytes) ∷ calls) = seen_by kind offset bytes (seen_of calls)
seen_of ((kind, offset, false, bytes) ∷ calls) = seen_of calls

-- what a sync leaves: if it succeeded, and no call has failed before, what is seen
abbrev pub Settles : ℕ → Bool → List ℕ → List ℕ → Type 0
Settles zero true file c = c ≡ file
Settles zero false file c = Unit {0}
Settles (suc faults) ok file c = Unit {0}

-- What a crash may leave after a call, by what it might have left before: after a write or a cut,
-- also one that failed, any mixture; after a sync, what was there, or what is seen alone.
abbrev pub LeavesAfter :
    ℕ → ℕ → Bool → List ℕ → ℕ → List ℕ → (List ℕ → Type 0) → List ℕ → Type 0
LeavesAfter zero offset ok bytes faults file before c = c ≡ bytes
LeavesAfter (suc zero) at ok bytes faults file before c =
    (d : List ℕ) × before d × Mixed at bytes d c
LeavesAfter (suc (suc zero)) len ok bytes faults file before c =
    (d : List ℕ) × before d × Cut len d c
LeavesAfter (suc (suc (suc other))) offset ok bytes faults file before c =
    Settles faults ok file c × before c

abbrev pub leaves_of : List Event → List ℕ → Type 0
leaves_of [] c = c ≡ []
leaves_of ((kind, offset, ok, bytes) ∷ calls) c =
    LeavesAfter kind offset ok bytes (faults_of calls) (seen_of calls) (leaves_of calls) c

-- what a crash after `t` calls, or later, may have left
abbrev pub left_of : List Event → ℕ → List ℕ → Type 0
left_of [] t c = leaves_of [] c
left_of (call ∷ calls) t c = leaves_of (call ∷ calls) c ⊎ ((t ≤ length calls) × left_of calls t c)

pub counts_now_of :
    (calls : List Event) (t : ℕ) (c : List ℕ) → leaves_of calls c → left_of calls t c
counts_now_of [] t c now = now
counts_now_of (call ∷ calls) t c now = inl now

no_later : (n : ℕ) → suc n ≤ n → ⊥
no_later n le = omega arith

pub only_now_of :
    (calls : List Event) (c : List ℕ) → left_of calls (length calls) c → leaves_of calls c
only_now_of [] c left = left
only_now_of (call ∷ calls) c (inl now) = now
only_now_of (call ∷ calls) c (inr before) = absurd (no_later (length calls) before.0)
