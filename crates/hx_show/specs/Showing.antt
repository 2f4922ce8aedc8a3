-- A whole text in words.
use Rattle.std.specs.Prelude.{◌≡◌, ℕ, ◌==◌, Bool, if◌then◌else◌, List, [], ◌∷◌, ◌++◌, Option, IfSome}
use Rattle.std.specs.List.{flat_map}
use Rattle.std.specs.Io.{StopsAt}
use Rattle.std.specs.Io.BufRead.{take_through}
use Rattle.std.specs.Io.KnownBytes.{Consumes, Appends}
use Rattle.hx_units.specs.Letters.{line_feed}
use Rattle.hx_units.specs.Cuts.{Lacks}
use Rattle.hx_show.specs.declared.choice.Choice.{Choice}
use Rattle.hx_show.specs.Lines.{shown_line}

-- a byte in front of the first of these lines
abbrev pub in_front : ℕ → List (List ℕ) → List (List ℕ)
in_front b [] = (b ∷ []) ∷ []
in_front b (line ∷ lines) = (b ∷ line) ∷ lines

-- the lines of a text, without their line feeds; what follows the last line feed is one too
abbrev pub lines_in : List ℕ → List (List ℕ)
lines_in [] = []
lines_in (b ∷ text) = if b == line_feed then [] ∷ lines_in text else in_front b (lines_in text)

-- the words of the chosen lines of a text
abbrev pub shown : Choice → List ℕ → List ℕ
shown choice text = flat_map (shown_line choice) (lines_in text)

-- these are all the bytes, if they are known
abbrev pub IsAllOf : Option (List ℕ) → List ℕ → Type 0
IsAllOf known bytes = IfSome known (λ xs. xs ≡ bytes)

-- a line was read, with its line feed if it has one; it is empty if nothing was left
pub record ReadsLine (r s : Option (List ℕ)) (line : List ℕ) : Type 0 where
  pub stops : StopsAt line line_feed
  pub read : Consumes r s line
  pub line_is : IfSome r (λ xs. line ≡ take_through line_feed xs)

-- a line cut before its line feed, if it has one
pub record IsCut (line front : List ℕ) (fed : Bool) : Type 0 where
  pub line_is : line ≡ (if fed then front ++ line_feed ∷ [] else front)
  pub lacks : Lacks line_feed front

-- all was read, and its words were written
pub record ShowsAll (choice : Choice) (r s w v : Option (List ℕ)) : Type 0 where
  pub text : List ℕ
  pub read : Consumes r s text
  pub all : IsAllOf r text
  pub wrote : Appends w v (shown choice text)

-- a beginning of the words of what was read was written
pub record ShowsSome (choice : Choice) (r s w v : Option (List ℕ)) : Type 0 where
  pub text : List ℕ
  pub read : Consumes r s text
  pub front : List ℕ
  pub rest : List ℕ
  pub is_front : shown choice text ≡ front ++ rest
  pub wrote : Appends w v front
