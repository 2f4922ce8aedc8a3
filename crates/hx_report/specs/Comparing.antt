-- Lines of a text that come one by one.
use Rattle.std.specs.Prelude.{◌≡◌, ◌≢◌, ℕ, List, [], ◌∷◌, ◌++◌}
use Rattle.hx_units.specs.Letters.{line_feed}
use Rattle.hx_units.specs.Cuts.{Lacks}
use Rattle.hx_replay.specs.Grep.{lines_in}
use Rattle.hx_report.specs.Looks.{Pick, seen_lines}

-- how a line ends: by its line feed, or with the text
pub data Ends : Type 0 where
  ByFeed : (body : List ℕ) → Ends
  WithText : Ends

-- the line ends so, and these follow it
abbrev pub EndsSo : (line others : List ℕ) → Ends → Type 0
EndsSo line others (ByFeed body) = (line ≡ body ++ line_feed ∷ []) × Lacks line_feed body
EndsSo line others WithText = (others ≡ []) × Lacks line_feed line

-- the first line of a text that is not empty, and what follows it
pub record FirstLine (text line others : List ℕ) : Type 0 where
  pub lines : lines_in text ≡ line ∷ lines_in others
  pub some : line ≢ []
  pub end : Ends
  pub ends : EndsSo line others end

-- the first chosen line of a text, and what follows it
pub record NextLine (pick : Pick) (text line others : List ℕ) : Type 0 where
  pub lines : seen_lines pick text ≡ line ∷ seen_lines pick others
  pub some : line ≢ []
  pub end : Ends
  pub ends : EndsSo line others end
