-- The events that are read of a journal's tape: their records are the journal's.
use Rattle.std.proofs.Common.{◌≡◌, ◌∙◌, ℕ, List, [], ◌∷◌, ◌++◌, map, ap, sym, append_assoc}
use Rattle.std.proofs.lemmas.List.{append-nil}
use Rattle.hx_rules.specs.declared.event.Event.{Event}
use Rattle.hx_journal.specs.Lines.{AreLines, text_of, lines_of}
use Rattle.hx_journal.specs.Records.{records_of, recovered}
use Rattle.hx_journal.specs.Files.{LineFileState, stored, appended}
use Rattle.hx_journal.specs.Openings.{IsOpened}
use Rattle.hx_journal.proofs.Lines.{lines_of-text}
use Rattle.hx_tape_lines.specs.Text.{record_of}
use Rattle.hx_tape_lines.specs.Events.{IsLineOf}
use Rattle.hx_tape_lines.proofs.Back.{line_is_record}
use Rattle.hx_desk.specs.Entries.{restored}
use Rattle.hx_engine.specs.Journals.{lines}
use Rattle.hx_engine.proofs.Records.{recorded}
use Rattle.hx_recovery.proofs.Restored.{lines_restored}

-- one more record, and the text after it
one_more : (events : List Event) (event : Event) (rest : List ℕ) → text_of (map record_of (events ++ event ∷ [])) ++ rest ≡ text_of (map record_of events) ++ (record_of event ++ 10 ∷ rest)
one_more [] event rest = append_assoc (record_of event) (10 ∷ []) rest
one_more (e ∷ events) event rest = append_assoc (record_of e) (10 ∷ text_of (map record_of (events ++ event ∷ []))) rest ∙ (ap (λ v. record_of e ++ 10 ∷ v) (one_more events event rest) ∙ sym (append_assoc (record_of e) (10 ∷ text_of (map record_of events)) (record_of event ++ 10 ∷ rest)))

-- the events so far, and the one of the next line
pub read_more : (events : List Event) (event : Event) (tape text rest others : List ℕ) → tape ≡ text_of (map record_of events) ++ rest → rest ≡ text ++ 10 ∷ others → IsLineOf text event → tape ≡ text_of (map record_of (events ++ event ∷ [])) ++ others
read_more events event tape text rest others is cut read =
    is ∙ (ap (λ v. text_of (map record_of events) ++ v) (cut ∙ ap (λ v. v ++ 10 ∷ others) (line_is_record text event read)) ∙ sym (one_more events event others))

are_lines : (events : List Event) → AreLines (map record_of events)
are_lines [] = tt
are_lines (e ∷ events) = ((recorded e).0, are_lines events)

-- the lines of a tape of records are these records
pub tape_records : (events : List Event) (tape : List ℕ) (records : List (List ℕ)) → tape ≡ text_of (map record_of events) → lines_of tape ≡ records → records ≡ lines record_of (restored events)
tape_records events tape records is read = sym read ∙ (ap lines_of is ∙ (lines_of-text (map record_of events) (are_lines events) ∙ sym (lines_restored events)))

-- an opened journal holds the records of the events of its tape
pub durable_as : {D : Type 0} (seen : D → List ℕ) (file head tape : List ℕ) (journal : LineFileState D) (events : List Event) → IsOpened seen file head tape journal → tape ≡ text_of (map record_of events) → records_of (stored seen journal) ≡ lines record_of (restored events)
durable_as seen file head tape journal events opened is = opened.durable ∙ tape_records events tape (recovered file) is opened.records_are

-- and has no others
pub appended_as : {D : Type 0} (seen : D → List ℕ) (file head tape : List ℕ) (journal : LineFileState D) (events : List Event) → IsOpened seen file head tape journal → tape ≡ text_of (map record_of events) → records_of (appended seen journal) ≡ lines record_of (restored events)
appended_as seen file head tape journal events opened is =
    ap records_of (ap (λ w. stored seen journal ++ w) opened.waiting ∙ append-nil (stored seen journal)) ∙ durable_as seen file head tape journal events opened is

-- the events are those of the records that recovery reads
pub read_as : {D : Type 0} (seen : D → List ℕ) (file head tape : List ℕ) (journal : LineFileState D) (events : List Event) → IsOpened seen file head tape journal → tape ≡ text_of (map record_of events) → map record_of events ≡ recovered file
read_as seen file head tape journal events opened is =
    sym (lines_of-text (map record_of events) (are_lines events)) ∙ (ap lines_of (sym is) ∙ opened.records_are)
