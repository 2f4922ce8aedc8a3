-- What others get of an output text, as `grep` chooses its lines.
use Rattle.std.specs.Prelude.{ℕ, Bool, true, false, not, if◌then◌else◌, List}
use Rattle.std.specs.List.{concat, filter}
use Rattle.hx_replay.specs.Grep.{lines_in, begins_with, of_feed, of_member}
pub use Rattle.hx_report.specs.declared.looks.Look.{Look}
use Rattle.hx_report.specs.declared.looks.Look.TheVariants.{AllBut, Feed}

-- how the lines begin by which that is chosen
abbrev pub beginning_of : Look → List ℕ
beginning_of (AllBut m) = of_member m
beginning_of Feed = of_feed

-- whether those are the lines that the reader gets, and not the others
abbrev pub keeps_beginning : Look → Bool
keeps_beginning (AllBut m) = false
keeps_beginning Feed = true

-- lines of a text that are chosen: those that begin so, or those that do not
pub record Pick : Type 0 where
  pub keeps : Bool
  pub beginning : List ℕ

-- those that someone gets
abbrev pub pick_of : Look → Pick
pick_of look = record { keeps = keeps_beginning look; beginning = beginning_of look }

-- whether a line is chosen
abbrev pub is_seen : Pick → (line : List ℕ) → Bool
is_seen pick line =
    if pick.keeps then begins_with pick.beginning line
    else not (begins_with pick.beginning line)

-- the chosen lines of a text
abbrev pub seen_lines : Pick → (text : List ℕ) → List (List ℕ)
seen_lines pick text = filter (is_seen pick) (lines_in text)

-- their text
abbrev pub seen_text : Pick → (text : List ℕ) → List ℕ
seen_text pick text = concat (seen_lines pick text)
