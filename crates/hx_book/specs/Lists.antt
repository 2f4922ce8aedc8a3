-- Parts of a list at the first element that passes a test.
use Rattle.std.specs.Prelude.{Bool, List, [], ◌∷◌, Option, Some, None, if◌then◌else◌}

-- the first element, if there is one
abbrev pub head_of : {X : Type 0} → List X → Option X
head_of [] = None
head_of (x ∷ xs) = Some x

-- what follows the first that passes
abbrev pub after_first : {X : Type 0} → (X → Bool) → List X → List X
after_first test [] = []
after_first test (x ∷ xs) = if test x then xs else after_first test xs

-- the list without the first that passes
abbrev pub drop_first : {X : Type 0} → (X → Bool) → List X → List X
drop_first test [] = []
drop_first test (x ∷ xs) = if test x then xs else x ∷ drop_first test xs
