-- Lines of a text that are chosen by how they begin, as `grep` does.
use Rattle.std.specs.Prelude.{ℕ, ◌==◌, ◌&&◌, Bool, true, false, not, if◌then◌else◌, List, [], ◌∷◌, ◌++◌, codes}
use Rattle.std.specs.List.{concat, filter}
use Rattle.std.specs.Fmt.{decimal}
use Rattle.hx_units.specs.Letters.{space, line_feed}

-- a byte in front of the first of these lines
abbrev pub in_front : ℕ → List (List ℕ) → List (List ℕ)
in_front b [] = (b ∷ []) ∷ []
in_front b (line ∷ lines) = (b ∷ line) ∷ lines

-- the lines of a text, each with its line feed; what follows the last line feed is one without
abbrev pub lines_in : List ℕ → List (List ℕ)
lines_in [] = []
lines_in (b ∷ text) =
    if b == line_feed then (b ∷ []) ∷ lines_in text else in_front b (lines_in text)

-- whether a line begins with these bytes
abbrev pub begins_with : (beginning line : List ℕ) → Bool
begins_with [] line = true
begins_with (b ∷ beginning) [] = false
begins_with (b ∷ beginning) (c ∷ line) = b == c && begins_with beginning line

-- the text of the lines that begin so: `grep "^..."`
abbrev pub lines_with : (beginning text : List ℕ) → List ℕ
lines_with beginning text = concat (filter (λ line. begins_with beginning line) (lines_in text))

-- the text of the lines that do not: `grep -v "^..."`
abbrev pub lines_without : (beginning text : List ℕ) → List ℕ
lines_without beginning text =
    concat (filter (λ line. not (begins_with beginning line)) (lines_in text))

-- how the lines of the feed begin in the output
abbrev pub of_feed : List ℕ
of_feed = codes "F "

-- how the lines of the replies to a member begin in the output
abbrev pub of_member : (member : ℕ) → List ℕ
of_member member = codes "M " ++ (decimal member ++ space ∷ [])

-- an output text without the lines to a member
abbrev pub lines_except : (member : ℕ) (text : List ℕ) → List ℕ
lines_except member text = lines_without (of_member member) text

-- the lines of the feed of an output text
abbrev pub lines_of_feed : List ℕ → List ℕ
lines_of_feed text = lines_with of_feed text
