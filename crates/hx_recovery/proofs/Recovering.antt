-- An exchange that resumes from what a crash left.
use Rattle.std.proofs.Common.{◌≡◌, ℕ, List, [], ◌++◌, sym, ap, ◌∙◌, subst}
use Rattle.std.proofs.lemmas.List.{map-append}
use mathlib.Core.List.{IsPrefix}
use Rattle.hx_blog.specs.Feed.{Entries, feed}
use Rattle.hx_rules.specs.declared.event.Event.{Event}
use Rattle.hx_laws.specs.Recorded.{AreRecorded}
use Rattle.hx_laws.proofs.Accepted.{accepted_front}
use Rattle.hx_market.specs.Markets.{opening}
use Rattle.hx_tape_lines.specs.Text.{record_of}
use Rattle.hx_desk.specs.declared.entry.Entry.{Entry}
use Rattle.hx_desk.specs.Entries.{events_of, restored, ledger}
use Rattle.hx_desk.specs.Known.{history_of, known_replies}
use Rattle.hx_engine.specs.Journals.{lines}
use Rattle.hx_engine.proofs.Positions.{history_of_ledger}
use Rattle.hx_recovery.specs.Recovery.{AreReadBack, GoesOnFrom, PublishedAgainAtOnce, PublishedIsPublishedAgain, AtAnyMoment, VouchedIsCovered, LeftIsOfTheHistory, QuietStaysQuiet, NothingAcross}
use Rattle.hx_engine.proofs.Applying.{events_restored}
use Rattle.hx_engine.proofs.HeldLaws.{published_of_unspoken}
use Rattle.hx_recovery.proofs.Records.{events_begin, events_begun, events_prefix}
use Rattle.hx_recovery.proofs.Telling.{output_again, ledger_whole, no_trace}
use Rattle.hx_units.proofs.Prefixes.{prefix_self, prefix_trans}

-- what was known is a beginning of what the exchange resumes from
known_begins : (known : Entries Entry) (before : List Event) → AreReadBack (events_of (history_of known)) → GoesOnFrom known before → IsPrefix (events_of (history_of known)) (events_of (restored before))
known_begins known before back g =
    subst (λ (es : List Event). IsPrefix (events_of (history_of known)) es) (sym (events_restored before))
    (events_begin (history_of known) g.left before back g.covered g.read)

pub published_is_published_again : PublishedIsPublishedAgain
published_is_published_again setup known before history whole back g begins =
    output_again setup known history whole
    (prefix_trans (events_of (history_of known)) (events_of (restored before)) (events_of history) (known_begins known before back g) (events_prefix (restored before) history begins))

pub published_again_at_once : PublishedAgainAtOnce
published_again_at_once setup known before whole back g = published_is_published_again setup known before (restored before) whole back g (prefix_self (restored before))

-- ---- what is left

records_prefix : (shorter longer : List Entry) → IsPrefix shorter longer → IsPrefix (lines record_of shorter) (lines record_of longer)
records_prefix shorter longer p =
    (lines record_of p.0, sym (map-append (λ (e : Entry). record_of e.event) shorter p.0) ∙ ap (lines record_of) p.1)

pub at_any_moment : AtAnyMoment
at_any_moment known output left most knew between =
    prefix_trans (lines record_of (history_of known)) (lines record_of output) left (records_prefix (history_of known) output knew) between.begins

pub vouched_is_covered : VouchedIsCovered
vouched_is_covered known before g = record {
  left = g.left;
  covered = subst (λ (es : List Entry). IsPrefix (lines record_of es) g.left) (published_of_unspoken (history_of known)) g.covered;
  read = g.read;
}

pub left_is_of_the_history : LeftIsOfTheHistory
left_is_of_the_history setup durable left before history back between read =
    let begun = events_begun left before history back between.begun read in
    let output : events_of (history_of (ledger setup (restored before))) ≡ before = ap events_of (history_of_ledger setup (restored before)) ∙ events_restored before in
    record {
      begins = begun;
      accepted = λ all. accepted_front setup (opening setup) before begun.0 (subst (λ (es : List Event). AreRecorded setup es) (sym begun.1) all);
      output = output_again setup (ledger setup (restored before)) history (ledger_whole setup (restored before)) (subst (λ (es : List Event). IsPrefix es (events_of history)) (sym output) begun);
    }

pub quiet_stays_quiet : QuietStaysQuiet
quiet_stays_quiet setup before since = no_trace setup (restored before ++ since)

pub nothing_across : NothingAcross
nothing_across setup known before history chosen whole back g begins quiet =
    let again = published_is_published_again setup known before history whole back g begins in
    let none = no_trace setup history in
    record {
      in_feed = subst (λ (l : List (List ℕ)). IsPrefix (feed known) l) (none.in_feed.any_choice chosen quiet) again.same_feed;
      in_replies = λ member spared. subst (λ (l : List (List ℕ)). IsPrefix (known_replies setup member known) l) ((none.in_replies member (λ rows. rows)).any_choice chosen quiet spared) (again.same_replies member);
    }
