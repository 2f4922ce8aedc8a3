-- The tape of a history's records is replayed.
use Rattle.std.proofs.Common.{◌≡◌, ℕ, List, [], ◌∷◌, ◌++◌, map, Option, Some, None, append-nil, append_assoc, refl, sym, ap, ◌∙◌, subst}
use Rattle.std.specs.List.{AllByRecursion}
use Rattle.std.specs.Io.KnownBytes.{Consumes, IsAtEnd}
use Rattle.hx_members.specs.Setups.{Setup}
use Rattle.hx_rules.specs.declared.event.Event.{Event}
use Rattle.hx_laws.specs.Recorded.{AreRecorded}
use Rattle.hx_tape_lines.specs.Text.{Entry as Line, IsEntry, record_of, tape}
use Rattle.hx_tape_lines.specs.Events.{event_of, IsKnown}
use Rattle.hx_desk.specs.declared.entry.Entry.{Entry}
use Rattle.hx_desk.specs.Entries.{events_of}
use Rattle.hx_desk.proofs.Standing.{published_is}
use Rattle.hx_engine.specs.Journals.{lines}
use Rattle.hx_tape_lines.specs.declared.fault.Kind.{Kind}
use Rattle.hx_tape_lines.proofs.Entries.{known_entries}
use Rattle.hx_replay.specs.declared.fault.TapeError.TheVariants as fault
use Rattle.hx_replay.specs.Whole.{StopsAt}
use Rattle.hx_replay.specs.Run.{Progress, start, after, after_all, output_all, AreEvents}
use Rattle.hx_replay.specs.Seen.{texts_of, output_lines}
use Rattle.hx_replay.specs.Grep.{lines_with, of_member, lines_of_feed}
use Rattle.hx_replay.proofs.NoTrace.{texts_are}
use Rattle.hx_replay.proofs.OneReading.{tape-cons, tape_same}
use Rattle.hx_replay.proofs.Strikes.{recorded}
use Rattle.hx_replay.proofs.Texts.{feed_texts, member_texts}
use Rattle.hx_recovery.specs.Recovery.{AreReadBack}
use Rattle.hx_recovery.specs.Served.{tape_of, IsReplayOf, ReplayIsSuch, TellsTheSame, feed_text, reply_text, ServedDayReplays, NoLineStops}
use Rattle.hx_recovery.proofs.OutputLines.{feed_output, replies_output}
use Rattle.hx_recovery.proofs.Telling.{replies_of_ledger}
use Rattle.hx_recovery.proofs.NoBadLine.{first_ones, not_badly}

-- ---- the lines of a history

-- the lines that its records are
record AreLinesOf (history : List Entry) (entries : List Line) : Type 0 where
  known : AllByRecursion IsKnown entries
  events : map event_of entries ≡ events_of history
  text : tape entries ≡ tape_of (lines record_of history)

lines_of : (history : List Entry) → AreReadBack (events_of history) → (entries : List Line) × AreLinesOf history entries
lines_of [] back = ([], record { known = tt; events = refl; text = refl })
lines_of (e ∷ history) back =
    let first = back.0 in
    let rest = lines_of history back.1 in
    let r = rest.1 in (
      first.entry ∷ rest.0,
      record {
        known = (first.is_known, r.known);
        events = ap (λ (x : Event). x ∷ map event_of rest.0) (sym first.event_is) ∙ ap (λ (xs : List Event). e.event ∷ xs) r.events;
        text = tape-cons first.entry rest.0 ∙ ap (λ (t : List ℕ). t ++ 10 ∷ tape rest.0) (sym first.is_line) ∙ ap (λ (t : List ℕ). record_of e.event ++ 10 ∷ t) r.text;
      },
    )

are_entries : (p : Progress) (es : List Line) → AreEvents p es → AllByRecursion IsEntry es
are_entries p [] h = tt
are_entries p (e ∷ es) h = (h.0.entry, are_entries (after p e) es h.1)

-- ---- by the contract of `replay`

-- what was read is all that there was
all_read : (text read : List ℕ) (left : Option (List ℕ)) → Consumes (Some text) left read → IsAtEnd left → read ≡ text
all_read text read None consumes ends = absurd consumes
all_read text read (Some rest) consumes ends = sym (consumes ∙ ap (λ (l : List ℕ). read ++ l) ends ∙ append-nil read)

pub replay_is_such : ReplayIsSuch
replay_is_such setup counts text left old new r =
    let replay : IsReplayOf setup text (output_all (start setup) r.events) = record {
      entries = r.events;
      taken = r.are_events;
      text_is = all_read text (tape r.events) left r.read r.at_end;
      output_is = refl;
    } in
    (output_all (start setup) r.events, replay, r.wrote)

-- ---- what a replay writes

tells : (setup : Setup) (history : List Entry) (output : List ℕ) → output ≡ texts_of (output_lines setup (events_of history)) → TellsTheSame setup history output
tells setup history output is = record {
  all = is;
  feed_lines =
      ap lines_of_feed is
      ∙ feed_texts (output_lines setup (events_of history))
      ∙ feed_output setup (events_of history)
      ∙ ap (feed_text 0) (sym (published_is setup history));
  member_lines = λ member low.
      ap (lines_with (of_member member)) is
      ∙ member_texts member low (output_lines setup (events_of history))
      ∙ replies_output setup member (events_of history) low
      ∙ ap (reply_text member 0) (sym (replies_of_ledger setup member history));
}

pub served_day_replays : ServedDayReplays
served_day_replays setup history back accepted =
    let own = lines_of history back in
    let r = own.1 in
    record {
      written = output_all (start setup) own.0;
      is_taken = record {
        entries = own.0;
        taken = recorded setup own.0 r.known (subst (λ (es : List Event). AreRecorded setup es) (sym r.events) accepted);
        text_is = r.text;
        output_is = refl;
      };
      tells = λ output o. tells setup history output
          (let same : o.entries ≡ own.0 = tape_same o.entries own.0 (are_entries (start setup) o.entries o.taken) (known_entries own.0 r.known) (o.text_is ∙ sym r.text) in
          o.output_is ∙ ap (output_all (start setup)) same ∙ texts_are setup own.0 ∙ ap (λ (es : List Event). texts_of (output_lines setup es)) r.events);
    }

-- ---- no line stops it

no_line_stops_at : (setup : Setup) (own : List Line) (text : List ℕ) (number : ℕ) (kind : Kind) (left old new : Option (List ℕ)) → AreEvents (start setup) own → tape own ≡ text
    → StopsAt setup (fault.Line number kind) (Some text) left old new → ⊥
no_line_stops_at setup own text number kind None old new taken is s = s.read
no_line_stops_at setup own text number kind (Some unread) old new taken is s =
    let stops = s.stops in
    let all : tape stops.events ++ (stops.rest ++ unread) ≡ tape own =
    sym (append_assoc (tape stops.events) stops.rest unread) ∙ ap (λ (t : List ℕ). t ++ unread) (sym stops.text_is) ∙ sym s.read ∙ sym is in
    not_badly (unread ≡ []) (after_all (start setup) stops.events) kind stops.rest unread (first_ones (start setup) stops.events own (stops.rest ++ unread) stops.are_events taken all) (λ e. e) stops.why.2

pub no_line_stops : NoLineStops
no_line_stops setup history number kind left old new back accepted s =
    let own = lines_of history back in
    let r = own.1 in
    no_line_stops_at setup own.0 (tape_of (lines record_of history)) number kind left old new
    (recorded setup own.0 r.known (subst (λ (es : List Event). AreRecorded setup es) (sym r.events) accepted)) r.text s
