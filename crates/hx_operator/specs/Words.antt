-- What an operator says: a command in words, and after a halt a text in double quotes for the
-- operator's log.
use Rattle.std.specs.Prelude.{ℕ, Bool, false, not, bytes_eq, codes, if◌then◌else◌, List, [], ◌∷◌, Option, Some, None, Result, Ok, Err}
use Rattle.std.specs.List.{before_first, after_first}
use Rattle.std.specs.Option.{option_map_or}
use Rattle.hx_units.specs.declared.names.Symbol.{Symbol}
use Rattle.hx_operator.specs.declared.command.Command.{Command}
use Rattle.hx_operator.specs.declared.command.Command.TheVariants.{Start, Open, Close, End, Code, Halt, Resume, Break, Tick, Status, Disconnect, Allow, Refuse, Help}
use Rattle.hx_operator.specs.declared.words.Kind.{Kind}
use Rattle.hx_operator.specs.declared.words.Kind.TheVariants as kind
use Rattle.hx_operator.specs.declared.fault.WordError.{WordError}
use Rattle.hx_operator.specs.declared.fault.WordError.TheVariants as wrong
use Rattle.hx_operator.specs.Marks.{is_quote, has_quote, has_word, words_of}
use Rattle.hx_operator.specs.Names.{symbol_of, reason_of, code_of, number_of, member_of}

-- ---- The first word

-- the commands of one word
abbrev pub lone_command : List ℕ → Option Command
lone_command word =
    if bytes_eq word (codes "start") then Some Start
    else if bytes_eq word (codes "open") then Some Open
    else if bytes_eq word (codes "close") then Some Close
    else if bytes_eq word (codes "end") then Some End
    else if bytes_eq word (codes "tick") then Some Tick
    else if bytes_eq word (codes "status") then Some Status
    else if bytes_eq word (codes "help") then Some Help
    else None

-- the words that more must follow
abbrev pub kind_of : List ℕ → Option Kind
kind_of word =
    if bytes_eq word (codes "code") then Some kind.Code
    else if bytes_eq word (codes "halt") then Some kind.Halt
    else if bytes_eq word (codes "resume") then Some kind.Resume
    else if bytes_eq word (codes "break") then Some kind.Break
    else if bytes_eq word (codes "drop") then Some kind.Disconnect
    else if bytes_eq word (codes "allow") then Some kind.Allow
    else if bytes_eq word (codes "refuse") then Some kind.Refuse
    else None

-- ---- What follows it

-- exactly one word
abbrev pub one_of : WordError → List (List ℕ) → Result (List ℕ) WordError
one_of missing [] = Err missing
one_of missing (word ∷ []) = Ok word
one_of missing (word ∷ other ∷ more) = Err wrong.TooMany

-- what that word is read as
abbrev pub read_one : {A : Type 0} → (List ℕ → Option A) → WordError
    → Result (List ℕ) WordError → Result A WordError
read_one read refused (Err e) = Err e
read_one read refused (Ok word) = option_map_or (λ x. Ok x) (read word) (Err refused)

abbrev pub the_code : List (List ℕ) → Result ℕ WordError
the_code more = read_one code_of wrong.NoCode (one_of wrong.MissingCode more)

abbrev pub the_stock : List (List ℕ) → Result Symbol WordError
the_stock more = read_one symbol_of wrong.NoStock (one_of wrong.MissingStock more)

abbrev pub the_number : List (List ℕ) → Result ℕ WordError
the_number more = read_one number_of wrong.NoNumber (one_of wrong.MissingNumber more)

abbrev pub the_member : List (List ℕ) → Result ℕ WordError
the_member more = read_one member_of wrong.NoMember (one_of wrong.MissingMember more)

-- the command that is made of it
abbrev pub made : {A : Type 0} → (A → Command) → Result A WordError → Result Command WordError
made make (Err e) = Err e
made make (Ok x) = Ok (make x)

-- the halt of a stock, for a reason
abbrev pub halted : Option Symbol → Option (List ℕ) → Result Command WordError
halted None reason = Err wrong.NoStock
halted (Some stock) None = Err wrong.NoReason
halted (Some stock) (Some reason) = Ok (Halt stock reason)

abbrev pub halt_of : List (List ℕ) → Result Command WordError
halt_of [] = Err wrong.MissingStock
halt_of (stock ∷ []) = Err wrong.MissingReason
halt_of (stock ∷ reason ∷ []) = halted (symbol_of stock) (reason_of reason)
halt_of (stock ∷ reason ∷ other ∷ more) = Err wrong.TooMany

-- a command of more than one word
abbrev pub with_more : Kind → List (List ℕ) → Result Command WordError
with_more kind.Code more = made Code (the_code more)
with_more kind.Halt more = halt_of more
with_more kind.Resume more = made Resume (the_stock more)
with_more kind.Break more = made Break (the_number more)
with_more kind.Disconnect more = made Disconnect (the_member more)
with_more kind.Allow more = made Allow (the_member more)
with_more kind.Refuse more = made Refuse (the_member more)

-- ---- A command

abbrev pub alone : Command → List (List ℕ) → Result Command WordError
alone command [] = Ok command
alone command (word ∷ more) = Err wrong.TooMany

abbrev pub by_first : Option Command → Option Kind → List (List ℕ) → Result Command WordError
by_first (Some command) kind more = alone command more
by_first None (Some kind) more = with_more kind more
by_first None None more = Err wrong.UnknownWord

-- the command that these words say
abbrev pub command_of_words : List (List ℕ) → Result Command WordError
command_of_words [] = Err wrong.NoWord
command_of_words (word ∷ more) = by_first (lone_command word) (kind_of word) more

-- ---- A text

abbrev pub begins_with_halt : List (List ℕ) → Bool
begins_with_halt [] = false
begins_with_halt (word ∷ more) = bytes_eq word (codes "halt")

-- a command with a text in quotes after it: these words stand in front of the first quote, and the
-- rest after it
abbrev pub with_note : List (List ℕ) → (rest : List ℕ) → Result Command WordError
with_note words rest =
    if not (has_quote rest) then Err wrong.OpenQuote
    else if has_word (after_first is_quote rest) then Err wrong.TooMany
    else if begins_with_halt words then command_of_words words
    else Err wrong.NoNote

-- the command that a text says
abbrev pub command_of : List ℕ → Result Command WordError
command_of text =
    if has_quote text
    then with_note (words_of (before_first is_quote text)) (after_first is_quote text)
    else command_of_words (words_of text)

-- the text in quotes
abbrev pub note_of : List ℕ → Option (List ℕ)
note_of text =
    if has_quote text
    then (if has_quote (after_first is_quote text)
    then Some (before_first is_quote (after_first is_quote text)) else None)
    else None
