-- Records among the lines of a file.
use Rattle.std.specs.Prelude.{◌≡◌, ◌==◌, ℕ, Bool, false, not, List, [], ◌∷◌, filter, if◌then◌else◌}
use Rattle.hx_journal.specs.Lines.{IsLine, lines_of}

-- a line of the journal's own: it begins with '#'
abbrev pub is_mark : List ℕ → Bool
is_mark [] = false
is_mark (b ∷ bytes) = b == 35

-- a record: a line that is no mark
abbrev pub IsRecord : List ℕ → Type 0
IsRecord bytes = IsLine bytes × (is_mark bytes ≡ false)

-- the records among these lines
abbrev pub records_of : List (List ℕ) → List (List ℕ)
records_of lines = filter (λ line. not (is_mark line)) lines

-- a line stays if some line after it stays, or if it is a mark
abbrev pub sealed_with : List ℕ → List (List ℕ) → List (List ℕ)
sealed_with line [] = if is_mark line then line ∷ [] else []
sealed_with line (next ∷ rest) = line ∷ next ∷ rest

-- the lines up to the last mark: each block that is whole
abbrev pub sealed : List (List ℕ) → List (List ℕ)
sealed [] = []
sealed (line ∷ lines) = sealed_with line (sealed lines)

-- what recovery reads of a file: the records of its whole blocks
abbrev pub recovered : List ℕ → List (List ℕ)
recovered file = records_of (sealed (lines_of file))

-- the same is read of the one file as of the other
abbrev pub ReadsAlike : List ℕ → List ℕ → Type 0
ReadsAlike other file = recovered file ≡ recovered other
