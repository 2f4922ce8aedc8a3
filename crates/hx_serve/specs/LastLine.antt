-- What a day writes in the end.
use Rattle.std.specs.Prelude.{ℕ, List, [], ◌∷◌, ◌++◌, map, codes}
use Rattle.std.specs.Fmt.{decimal}
use Rattle.hx_units.specs.Letters.{line_feed}
use Rattle.hx_desk.specs.declared.entry.Entry.{Entry}
use Rattle.hx_tape_lines.specs.Text.{tape, entry_of_event}

-- the last line: how many events there were, and how many messages of the feed
abbrev pub last_line : (events feed : ℕ) → List ℕ
last_line events feed =
    codes "events " ++ (decimal events ++ (codes " feed " ++ (decimal feed ++ line_feed ∷ [])))

-- the tape of a history: the lines of its events, in its order
abbrev pub tape_of : List Entry → List ℕ
tape_of history = tape (map (λ x. entry_of_event x.event) history)
