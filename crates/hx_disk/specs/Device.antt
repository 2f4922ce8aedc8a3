-- What the calls of a device do to its file, and what a crash may do between two syncs.
use Rattle.std.specs.Prelude.{◌≡◌, ◌⊎◌, ℕ, ◌+◌, ◌-◌, ◌<◌, ◌≤◌, max, min, List, ◌++◌, length, take, drop, get_or, Result, IsErrOf, IsOk}
use Rattle.hx_disk.specs.declared.device.DeviceError.{DeviceError}
use Rattle.hx_disk.specs.declared.device.DeviceError.TheVariants.{NoRoom, Failed}

-- new is old with these bytes at this offset
abbrev pub Holds : (old : List ℕ) → (at : ℕ) → (bytes : List ℕ) → (new : List ℕ) → Type 0
Holds old at bytes new = new ≡ take at old ++ bytes ++ drop (at + length bytes) old

-- the byte at an offset of a file, and zero if there is none
abbrev pub byte : List ℕ → ℕ → ℕ
byte file i = get_or file i 0

-- After a write that a crash cuts short: each byte is the one that was there or, within the range,
-- the one that was written.
pub record Mixed (at : ℕ) (bytes : List ℕ) (old new : List ℕ) : Type 0 where
  pub no_shorter : length old ≤ length new
  pub no_longer : length new ≤ max (length old) (at + length bytes)
  pub each :
      (i : ℕ) → i < length new
      → (byte new i ≡ byte old i)
      ⊎ ((at ≤ i) × (i < at + length bytes) × (byte new i ≡ byte bytes (i - at)))

-- After a cut that a crash cuts short: some length between, and each byte after the cut is the one
-- that was there or zero.
pub record Cut (len : ℕ) (old new : List ℕ) : Type 0 where
  pub no_shorter : min len (length old) ≤ length new
  pub no_longer : length new ≤ length old
  pub each :
      (i : ℕ) → i < length new
      → (byte new i ≡ byte old i) ⊎ ((len ≤ i) × (byte new i ≡ 0))

-- each new outcome of a crash is an old outcome after a step
abbrev pub Follows :
    (List ℕ → List ℕ → Type 0) → (List ℕ → Type 0) → (List ℕ → Type 0) → Type 0
Follows step old new = (c : List ℕ) → new c → (d : List ℕ) × old d × step d c

-- a crash leaves this and nothing else
abbrev pub Only : List ℕ → (List ℕ → Type 0) → Type 0
Only file outcomes = (c : List ℕ) → outcomes c → c ≡ file

-- Time goes on: a crash since t might have left what it might have left before, or what it may
-- leave now.
pub record Elapses
    (before now : ℕ) (past since : ℕ → List ℕ → Type 0) (may_leave : List ℕ → Type 0)
    : Type 0 where
  pub later : before ≤ now
  pub nothing_else : (t : ℕ) (c : List ℕ) → t ≤ before → since t c → past t c ⊎ may_leave c
  pub keeps : (t : ℕ) (c : List ℕ) → t ≤ before → past t c → since t c

-- A crash at any moment since old leaves a file that has P.
pub record LeavesOnly
    {D : Type 0} (moment : D → ℕ) (left_since : D → ℕ → List ℕ → Type 0) (old new : D)
    (P : List ℕ → Type 0) : Type 0 where
  pub later : moment old ≤ moment new
  pub each : (c : List ℕ) → left_since new (moment old) c → P c
  -- for a run that began earlier
  pub before : (t : ℕ) (c : List ℕ) → t ≤ moment old → left_since new t c → left_since old t c ⊎ P c

-- `Failed` and `NoRoom` are reported only if a call has failed since, and after an Ok none has
pub record HasCause {T : Type 0} (before now : ℕ) (result : Result T DeviceError) : Type 0 where
  pub later : before ≤ now
  pub failed : IsErrOf result Failed → before < now
  pub no_room : IsErrOf result NoRoom → before < now
  pub fine : IsOk result → now ≡ before
