-- What was noted.
use Rattle.std.specs.Prelude.{ℕ, List, [], ◌∷◌, ◌++◌, slice_index}
use Rattle.hx_journal.specs.Lines.{lines_of}
use Rattle.hx_fenced_log.specs.Records.{Record}

-- numbers, and two texts; notes stand in a list, the newest first
abbrev pub Note : Type 0
Note = List ℕ × List ℕ × List ℕ

-- a record as it was noted: the numbers of its head, and its lines
abbrev pub record_of : Note → Record
record_of (numbers, text, none) = record {
  head = record {
    number = slice_index numbers 0;
    term = slice_index numbers 1;
    writer = slice_index numbers 2;
    index = slice_index numbers 3;
  };
  lines = lines_of text;
}

-- the records that were noted, in their order
abbrev pub records_of : List Note → List Record
records_of [] = []
records_of (note ∷ notes) = records_of notes ++ record_of note ∷ []
