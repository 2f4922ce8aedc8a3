-- Texts that are filled with spaces.
use Rattle.std.specs.Prelude.{ℕ, List, replicate, [], ◌∷◌, ◌==◌, ◌&&◌, bytes_eq, if◌then◌else◌}
use Rattle.hx_units.specs.Letters.{space}

-- a number of spaces
abbrev pub spaces : ℕ → List ℕ
spaces n = replicate n space

-- a text without the spaces in front
abbrev pub without_front : List ℕ → List ℕ
without_front [] = []
without_front (b ∷ text) = if b == space then without_front text else b ∷ text

-- a text without the spaces at its end
abbrev pub without_back : List ℕ → List ℕ
without_back [] = []
without_back (b ∷ text) =
    if b == space && bytes_eq (without_back text) [] then [] else b ∷ without_back text

-- a text without the spaces on both sides
abbrev pub trimmed : List ℕ → List ℕ
trimmed text = without_back (without_front text)
