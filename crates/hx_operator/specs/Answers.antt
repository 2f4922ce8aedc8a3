-- The answer to a command, as it goes over the socket: a first line that says ok, or no and why, then
-- lines of text, and an empty line at the end, by which one that was cut is known.
use Rattle.std.specs.Prelude.{◌≡◌, ℕ, codes, nat_eq, if◌then◌else◌, Bool, true, false, List, [], ◌∷◌, ◌++◌}
use Rattle.std.specs.List.{ends_with}
use Rattle.hx_units.specs.Letters.{line_feed}
use Rattle.hx_units.specs.Cuts.{Lacks}

-- the first line of an answer: whether the command was carried out
abbrev pub IsFirstLine : (is_ok : Bool) → List ℕ → Type 0
IsFirstLine true line = line ≡ codes "ok"
IsFirstLine false line = (why : List ℕ) × (line ≡ codes "no: " ++ why)

-- an answer without its end
pub record IsAnswer (is_ok : Bool) (text : List ℕ) : Type 0 where
  pub first : List ℕ
  pub more : List ℕ
  pub text_is : text ≡ first ++ line_feed ∷ more
  pub one_line : Lacks line_feed first
  pub says : IsFirstLine is_ok first

-- the bytes are this answer, and its end
pub record AreAnswer (bytes : List ℕ) (is_ok : Bool) (text : List ℕ) : Type 0 where
  pub bytes_are : bytes ≡ text ++ line_feed ∷ []
  pub is_answer : IsAnswer is_ok text
  -- its last line is whole
  pub lines : List ℕ
  pub whole : text ≡ lines ++ line_feed ∷ []

-- a text as an answer goes out: its last line ended, and an empty line after it
abbrev pub ended : List ℕ → List ℕ
ended text =
    (if ends_with nat_eq text (line_feed ∷ []) then text else text ++ line_feed ∷ [])
    ++ line_feed ∷ []
