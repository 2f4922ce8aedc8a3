-- Texts that are cut at a mark: words, lines, quotes and comments.
use Rattle.std.specs.Prelude.{ℕ, ◌==◌, Bool, List, length, nat_lt}
use Rattle.std.specs.List.{filter, list_any, slice_split}
use Rattle.hx_units.specs.Letters.{letter, space, line_feed}

abbrev pub is_space : ℕ → Bool
is_space b = b == space

abbrev pub is_line_feed : ℕ → Bool
is_line_feed b = b == line_feed

-- a double quote
abbrev pub is_quote : ℕ → Bool
is_quote b = b == 34

-- the mark of a comment
abbrev pub is_hash : ℕ → Bool
is_hash b = b == letter "#"

abbrev pub has_quote : List ℕ → Bool
has_quote text = list_any is_quote text

abbrev pub is_some_text : List ℕ → Bool
is_some_text word = nat_lt 0 (length word)

-- the words of a text: what stands between its spaces
abbrev pub words_of : List ℕ → List (List ℕ)
words_of text = filter is_some_text (slice_split is_space text)

-- whether a text has a word
abbrev pub has_word : List ℕ → Bool
has_word text = nat_lt 0 (length (words_of text))

-- the lines of a text: what stands between its line feeds
abbrev pub lines_of : List ℕ → List (List ℕ)
lines_of text = slice_split is_line_feed text
