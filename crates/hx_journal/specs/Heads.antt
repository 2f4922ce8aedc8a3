-- A journal's first line.
use Rattle.std.specs.Prelude.{◌≡◌, ◌<◌, ℕ, List, [], ◌∷◌, ◌++◌}
use mathlib.Core.List.{IsPrefix}
use Rattle.hx_units.specs.Cuts.{Lacks}

-- each byte is one that is printed, and no space
abbrev pub IsWord : List ℕ → Type 0
IsWord [] = Unit {0}
IsWord (b ∷ bytes) = ((32 < b) × (b < 127)) × IsWord bytes

-- `#hx1 SESSION DAY SETUP`
abbrev pub head_of : List ℕ → List ℕ → List ℕ → List ℕ
head_of session day setup =
    35 ∷ 104 ∷ 120 ∷ 49 ∷ 32 ∷ session ++ 32 ∷ day ++ 32 ∷ setup

-- a line is cut into these parts: at the first two spaces after its tag
pub record IsHeadOf (line session day setup : List ℕ) : Type 0 where
  pub is : line ≡ head_of session day setup
  pub session_ends : Lacks 32 session
  pub day_ends : Lacks 32 day

-- the first of these lines is no head
abbrev pub HasNoHead : List (List ℕ) → Type 0
HasNoHead lines =
    (session day setup : List ℕ) → IsWord session → IsWord day → IsWord setup
    → IsPrefix (head_of session day setup ∷ []) lines → ⊥
