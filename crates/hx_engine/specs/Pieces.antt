-- Several texts in one.
use Rattle.std.specs.Prelude.{◌≡◌, ℕ, ◌-◌, ◌≤◌, List, [], ◌∷◌, length, take, drop}

-- the pieces of a text, which begins at the offset `start`, that end at the offsets `ends`
abbrev pub pieces : (start : ℕ) → (text : List ℕ) → (ends : List ℕ) → List (List ℕ)
pieces start text [] = []
pieces start text (end ∷ ends) =
    take (end - start) text ∷ pieces end (drop (end - start) text) ends

-- the offsets `ends` cut all of a text, which begins at the offset `start`
abbrev pub AreEnds : (start : ℕ) → (text : List ℕ) → (ends : List ℕ) → Type 0
AreEnds start text [] = text ≡ []
AreEnds start text (end ∷ ends) =
    (start ≤ end) × (end - start ≤ length text) × AreEnds end (drop (end - start) text) ends
