-- Events and the records from which they are read.
use Rattle.std.proofs.Common.{◌≡◌, ℕ, List, [], ◌∷◌, refl, sym, ap, ◌∙◌, subst}
use Rattle.std.proofs.lemmas.List.{map-append}
use mathlib.Core.List.{IsPrefix}
use Rattle.hx_rules.specs.declared.event.Event.{Event}
use Rattle.hx_tape_lines.specs.Text.{record_of}
use Rattle.hx_tape_lines.specs.Events.{event_of, IsLineOf}
use Rattle.hx_tape_lines.proofs.OneLine.{line_same}
use Rattle.hx_tape_lines.proofs.Back.{line_is_record}
use Rattle.hx_tape_lines.proofs.Sent.{one_event}
use Rattle.hx_desk.specs.declared.entry.Entry.{Entry}
use Rattle.hx_desk.specs.Entries.{events_of, restored}
use Rattle.hx_engine.specs.Journals.{lines}
use Rattle.hx_recovery.specs.Recovery.{AreReadBack, AreReadFrom, SentIsReadBack, ReadIsResumed}

pub sent_is_read_back : SentIsReadBack
sent_is_read_back event h = (one_event event h).its_line

-- what is read of one text is one event
same_event : (text : List ℕ) (x y : Event) → IsLineOf text x → IsLineOf text y → x ≡ y
same_event text x y p q =
    p.event_is
    ∙ ap event_of (line_same p.entry q.entry p.is_known.entry q.is_known.entry (sym p.is_line ∙ q.is_line))
    ∙ sym q.event_is

-- ---- from records to events, and back

resumed : (left : List (List ℕ)) (before : List Event) → AreReadFrom left before → left ≡ lines record_of (restored before)
resumed [] [] read = refl
resumed [] (x ∷ before) read = absurd read
resumed (text ∷ left) [] read = absurd read
resumed (text ∷ left) (x ∷ before) read =
    ap (λ (t : List ℕ). t ∷ left) (line_is_record text x read.0)
    ∙ ap (λ (ts : List (List ℕ)). record_of x ∷ ts) (resumed left before read.1)

read_back : (left : List (List ℕ)) (before : List Event) → AreReadFrom left before → AreReadBack before
read_back [] [] read = tt
read_back [] (x ∷ before) read = absurd read
read_back (text ∷ left) [] read = absurd read
read_back (text ∷ left) (x ∷ before) read =
    (subst (λ (t : List ℕ). IsLineOf t x) (line_is_record text x read.0) read.0, read_back left before read.1)

read_from : (before : List Event) → AreReadBack before → AreReadFrom (lines record_of (restored before)) before
read_from [] back = tt
read_from (x ∷ before) back = (back.0, read_from before back.1)

pub read_is_resumed : ReadIsResumed
read_is_resumed left before = (
  λ read. (resumed left before read, read_back left before read),
  λ both. subst (λ (ts : List (List ℕ)). AreReadFrom ts before) (sym both.0) (read_from before both.1),
)

-- ---- beginnings

-- if records begin with those of a history, the events that are read begin with its events
pub events_begin : (history : List Entry) (left : List (List ℕ)) (before : List Event)
    → AreReadBack (events_of history) → IsPrefix (lines record_of history) left → AreReadFrom left before
    → IsPrefix (events_of history) before
events_begin [] left before back p read = (before, refl)
events_begin (e ∷ history) [] before back p read = absurd (cc (p.1))
events_begin (e ∷ history) (text ∷ left) [] back p read = absurd read
events_begin (e ∷ history) (text ∷ left) (x ∷ before) back p read =
    let same : record_of e.event ≡ text = cc (p.1) in
    let first = same_event text e.event x (subst (λ (t : List ℕ). IsLineOf t e.event) same back.0) read.0 in
    let rest = events_begin history left before back.1 (p.0, cc (p.1)) read.1 in
    (rest.0, cc (first, rest.1))

-- if they are a beginning of those of a history, so are the events
pub events_begun : (left : List (List ℕ)) (before : List Event) (history : List Entry)
    → AreReadBack (events_of history) → IsPrefix left (lines record_of history) → AreReadFrom left before
    → IsPrefix before (events_of history)
events_begun [] [] history back p read = (events_of history, refl)
events_begun [] (x ∷ before) history back p read = absurd read
events_begun (text ∷ left) [] history back p read = absurd read
events_begun (text ∷ left) (x ∷ before) [] back p read = absurd (cc (p.1))
events_begun (text ∷ left) (x ∷ before) (e ∷ history) back p read =
    let same : record_of e.event ≡ text = cc (p.1) in
    let first = same_event text e.event x (subst (λ (t : List ℕ). IsLineOf t e.event) same back.0) read.0 in
    let rest = events_begun left before history back.1 (p.0, cc (p.1)) read.1 in
    (rest.0, cc (first, rest.1))

-- the events of a beginning are a beginning of the events
pub events_prefix : (shorter longer : List Entry) → IsPrefix shorter longer → IsPrefix (events_of shorter) (events_of longer)
events_prefix shorter longer p =
    (events_of p.0, sym (map-append (λ (e : Entry). e.event) shorter p.0) ∙ ap events_of p.1)
