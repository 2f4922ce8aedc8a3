-- What a replay of a known tape writes.
use Rattle.std.proofs.Common.{◌≡◌, ℕ, true, false, List, [], ◌++◌, Some, Result, Ok, Err, sym, ap, ◌∙◌, subst, append-nil}
use Rattle.std.specs.Prelude.{IfOk, is_err}
use Rattle.hx_members.specs.Setups.{Setup}
use Rattle.hx_audit.specs.declared.auditor.Whose.{Whose}
use Rattle.hx_audit.specs.declared.auditor.Whose.TheVariants.{Of, OfAll}
use Rattle.hx_tape_lines.specs.Text.{Entry, tape}
use Rattle.hx_tape_lines.proofs.Entries.{known_entries}
use Rattle.hx_replay.specs.Run.{start, output_all, AreEvents}
use Rattle.hx_replay.specs.Struck.{struck, struck_all, left_by}
use Rattle.hx_replay.specs.Whole.{ReplaysAll}
use Rattle.hx_replay.specs.declared.run.Counts.{Counts}
use Rattle.hx_replay.proofs.OneReading.{tape_same}
use Rattle.hx_replay.proofs.StruckTapes.{texts_tell_nothing, all_known}

-- it is the text of the output of the tape's events
pub replayed : (setup : Setup) (counts : Counts) (text rest output : List ℕ) (es : List Entry) → ReplaysAll setup counts (Some text) (Some rest) (Some []) (Some output) → AreEvents (start setup) es → text ≡ tape es
    → output ≡ output_all (start setup) es
replayed setup counts text rest output es r h is =
    let whole : text ≡ tape r.events = r.read ∙ ap (λ (x : List ℕ). tape r.events ++ x) r.at_end ∙ append-nil (tape r.events) in
    let same : r.events ≡ es =
    tape_same r.events es (known_entries r.events (all_known (start setup) r.events r.are_events)) (known_entries es (all_known (start setup) es h)) (sym whole ∙ is) in
    r.wrote ∙ ap (output_all (start setup)) same

-- the same if the replay gave no error
pub output_is : {E : Type 0} (r : Result Counts E) (setup : Setup) (text rest empty output : List ℕ) → is_err r ≡ false
    → IfOk r (λ counts. ReplaysAll setup counts (Some text) (Some rest) (Some empty) (Some output)) → empty ≡ []
    → (es : List Entry) → AreEvents (start setup) es → text ≡ tape es → output ≡ output_all (start setup) es
output_is (Ok counts) setup text rest empty output passed all none es are is =
    replayed setup counts text rest output es (subst (λ (x : List ℕ). ReplaysAll setup counts (Some text) (Some rest) (Some x) (Some output)) none all) are is
output_is (Err e) setup text rest empty output passed all none es are is = absurd (let z : true ≡ false = passed in cc)

-- what is left of a day is a day
pub left_events : (setup : Setup) (whose : Whose) (es : List Entry) → AreEvents (start setup) es → AreEvents (start setup) (left_by setup whose es)
unfolding struck struck_all
left_events setup (Of m) es h = (texts_tell_nothing setup es h).taken m
left_events setup OfAll es h = (texts_tell_nothing setup es h).all_taken
