-- The laws of logs.
use Rattle.std.specs.Prelude.{◌≡◌, ◌⊎◌, ℕ, ◌<◌, true, false, List, [], ◌∷◌}
use mathlib.Core.List.{IsPrefix}
use Rattle.hx_fenced_log.specs.declared.terms.reading.Reading.{Reading}
use Rattle.hx_fenced_log.specs.Records.{Record}
use Rattle.hx_fenced_log.specs.Terms.{counts, after, after_all, taken, next_of, takeover_of}

-- what is taken of a longer log begins with what is taken of a shorter
abbrev pub TakenGrows : Type 0
TakenGrows =
    (at : Reading) (shorter longer : List Record)
    → IsPrefix shorter longer
    → IsPrefix (taken at shorter) (taken at longer)

-- after a record that counts, none of an earlier term counts
abbrev pub DeposedDoNotCount : Type 0
DeposedDoNotCount =
    (at : Reading) (taking late : Record) (between : List Record)
    → counts at taking.head ≡ true
    → late.head.term < taking.head.term
    → counts (after_all (after at taking) between) late.head ≡ false

-- one of two lists is a beginning of the other
abbrev pub OneBeginsOther : {A : Type 0} → List A → List A → Type 0
OneBeginsOther one other = IsPrefix one other ⊎ IsPrefix other one

-- so are the lines that two readers of one log have taken
abbrev pub OneIsAhead : Type 0
OneIsAhead =
    (at : Reading) (one other log : List Record)
    → IsPrefix one log
    → IsPrefix other log
    → OneBeginsOther (taken at one) (taken at other)

-- two records of one term that count are by one writer
abbrev pub OneWriterATerm : Type 0
OneWriterATerm =
    (at : Reading) (first second : Record) (between : List Record)
    → counts at first.head ≡ true
    → counts (after_all (after at first) between) second.head ≡ true
    → second.head.term ≡ first.head.term
    → second.head.writer ≡ first.head.writer

-- the next record of the writer whose term stands counts
abbrev pub NextCounts : Type 0
NextCounts = (at : Reading) → counts at (next_of at) ≡ true

-- a takeover counts, and then its writer stands
abbrev pub TakeoverCounts : Type 0
TakeoverCounts =
    (at : Reading) (writer : ℕ)
    → (counts at (takeover_of writer at) ≡ true)
    × ((next_of (after at (record { head = takeover_of writer at; lines = [] }))).writer ≡ writer)

-- and no line is taken by it
abbrev pub TakeoverAddsNothing : Type 0
TakeoverAddsNothing =
    (at : Reading) (writer : ℕ) (rest : List Record)
    → let r : Record = record { head = takeover_of writer at; lines = [] } in
    taken at (r ∷ rest) ≡ taken (after at r) rest
