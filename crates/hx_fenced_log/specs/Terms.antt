-- Which records of a log count.
use Rattle.std.specs.Prelude.{◌≡◌, ◌≢◌, ℕ, ◌+◌, ◌<◌, ◌==◌, ◌&&◌, ◌||◌, nat_lt, Bool, true, List, [], ◌∷◌, ◌++◌, length, if◌then◌else◌}
use Rattle.hx_fenced_log.specs.declared.terms.head.Head.{Head}
use Rattle.hx_fenced_log.specs.declared.terms.reading.Reading.{Reading}
use Rattle.hx_fenced_log.specs.declared.terms.reading.Verdict.{Verdict}
use Rattle.hx_fenced_log.specs.declared.terms.reading.Verdict.TheVariants.{Counts, EarlierTerm, OtherWriter, OtherIndex}
use Rattle.hx_fenced_log.specs.Records.{Record}

-- ---- the rule

-- a record is of a later term than the one that stands
abbrev pub is_later : Reading → Head → Bool
is_later at head = nat_lt at.term head.term

-- it is of the term that stands, and by the writer that began it
abbrev pub is_by_who_stands : Reading → Head → Bool
is_by_who_stands at head = (head.term == at.term) && (head.writer == at.writer)

-- A record counts if its index is the next one, and its term is later than the one that stands, or
-- the same and by the writer that began it.
abbrev pub counts : Reading → Head → Bool
counts at head = (head.index == at.index) && (is_later at head || is_by_who_stands at head)

-- why a record counts, or is passed over
abbrev pub IsReason : Reading → Head → Verdict → Type 0
IsReason at head Counts = counts at head ≡ true
IsReason at head EarlierTerm = head.term < at.term
IsReason at head OtherWriter = (head.term ≡ at.term) × (head.writer ≢ at.writer)
IsReason at head OtherIndex =
    ((is_later at head || is_by_who_stands at head) ≡ true) × (head.index ≢ at.index)

-- ---- reading

-- nothing is read: no term stands
abbrev pub start : Reading
start = record { number = 1; term = 0; writer = 0; index = 1 }

-- after a record that counts, its term stands and its lines are taken
abbrev pub taking : Reading → Record → Reading
taking at r = record {
  number = at.number + 1;
  term = r.head.term;
  writer = r.head.writer;
  index = at.index + length r.lines;
}

-- after one that does not, all is as before
abbrev pub passing : Reading → Reading
passing at = record {
  number = at.number + 1;
  term = at.term;
  writer = at.writer;
  index = at.index;
}

abbrev pub after : Reading → Record → Reading
after at r = if counts at r.head then taking at r else passing at

abbrev pub after_all : Reading → List Record → Reading
after_all at [] = at
after_all at (r ∷ rs) = after_all (after at r) rs

-- the lines of the records that count
abbrev pub taken : Reading → List Record → List (List ℕ)
taken at [] = []
taken at (r ∷ rs) = (if counts at r.head then r.lines else []) ++ taken (after at r) rs

-- ---- writing

-- the head of the next record of the writer whose term stands
abbrev pub next_of : Reading → Head
next_of at =
    record { number = at.number; term = at.term; writer = at.writer; index = at.index }

-- the head of the record by which a writer takes over
abbrev pub takeover_of : (writer : ℕ) → Reading → Head
takeover_of writer at =
    record { number = at.number; term = at.term + 1; writer = writer; index = at.index }
