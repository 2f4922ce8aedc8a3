-- A mark in one word.
use Rattle.std.specs.Prelude.{ℕ, ◌+◌, ◌*◌, ◌/◌, ◌%◌, ◌==◌, if◌then◌else◌}
use Rattle.hx_replay.specs.declared.unwritten.Marked.{Marked}
use Rattle.hx_replay.specs.declared.unwritten.Marked.TheVariants.{OfFeed, OfMember}

-- what a word marks: its half is the number, and an odd one is of a member's reply
abbrev pub marked_by : ℕ → Marked
marked_by word = if word % 2 == 0 then OfFeed (word / 2) else OfMember (word / 2)

-- the word that marks it
abbrev pub word_of : Marked → ℕ
word_of (OfFeed number) = number * 2
word_of (OfMember number) = number * 2 + 1
