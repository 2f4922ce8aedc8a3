-- The journal of a file whose tape is empty has no records.
use Rattle.std.proofs.Common.{◌≡◌, ◌∙◌, ℕ, List, [], ◌++◌, ap, sym}
use Rattle.std.proofs.lemmas.List.{append-nil}
use Rattle.hx_journal.specs.Lines.{lines_of}
use Rattle.hx_journal.specs.Records.{records_of}
use Rattle.hx_journal.specs.Files.{LineFileState, stored, appended}
use Rattle.hx_journal.specs.Openings.{IsOpened}

pub none_durable : {D : Type 0} (seen : D → List ℕ) (file head tape : List ℕ) (journal : LineFileState D) → IsOpened seen file head tape journal → tape ≡ [] → records_of (stored seen journal) ≡ []
none_durable seen file head tape journal opened empty = opened.durable ∙ (sym opened.records_are ∙ ap lines_of empty)

pub none_appended : {D : Type 0} (seen : D → List ℕ) (file head tape : List ℕ) (journal : LineFileState D) → IsOpened seen file head tape journal → tape ≡ [] → records_of (appended seen journal) ≡ []
none_appended seen file head tape journal opened empty =
    ap records_of (ap (λ w. stored seen journal ++ w) opened.waiting ∙ append-nil (stored seen journal)) ∙ none_durable seen file head tape journal opened empty
