-- Lines of a file.
use Rattle.std.specs.Prelude.{◌≢◌, ◌==◌, ℕ, List, [], ◌∷◌, ◌++◌, if◌then◌else◌}

-- neither zero nor a line feed
abbrev pub IsText : ℕ → Type 0
IsText b = (b ≢ 0) × (b ≢ 10)

-- all bytes of a line are text
abbrev pub IsLine : List ℕ → Type 0
IsLine [] = Unit {0}
IsLine (b ∷ bytes) = IsText b × IsLine bytes

-- each of these is a line
abbrev pub AreLines : List (List ℕ) → Type 0
AreLines [] = Unit {0}
AreLines (r ∷ rs) = IsLine r × AreLines rs

-- each line with a line feed after it
abbrev pub text_of : List (List ℕ) → List ℕ
text_of [] = []
text_of (r ∷ rs) = r ++ 10 ∷ text_of rs

-- a file up to its first zero
abbrev pub before_zero : List ℕ → List ℕ
before_zero [] = []
before_zero (b ∷ bytes) = if b == 0 then [] else b ∷ before_zero bytes

-- the lines that end, of a text that goes on a line which began so
abbrev pub lines_from : List ℕ → List ℕ → List (List ℕ)
lines_from begun [] = []
lines_from begun (b ∷ bytes) =
    if b == 10 then begun ∷ lines_from [] bytes else lines_from (begun ++ b ∷ []) bytes

-- the lines of a file: those that end, up to its first zero
abbrev pub lines_of : List ℕ → List (List ℕ)
lines_of file = lines_from [] (before_zero file)
