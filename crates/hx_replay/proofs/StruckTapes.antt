-- A tape without quiet chains is a tape, and its output shows the others the same.
use Rattle.std.proofs.Common.{◌≡◌, ℕ, ◌<◌, Bool, true, false, cond, not, List, [], ◌∷◌, map, Option, Some, None, refl, sym, ap, ◌∙◌, subst}
use Rattle.std.specs.List.{AllByRecursion}
use Rattle.hx_book.proofs.Lists.{all_filtered}
use Rattle.hx_members.specs.Setups.{Setup}
use Rattle.hx_rules.specs.declared.event.Event.{Event}
use Rattle.hx_rules.specs.declared.fault.PrepareError.{PrepareError}
use Rattle.hx_rules.specs.declared.fault.PrepareError.TheVariants as refused
use Rattle.hx_market.specs.Refusals.{refusal}
use Rattle.hx_market.specs.Steps.{run, sender}
use Rattle.hx_market.specs.QuietChains.{Choice, bears, is_quiet, quiet_of_one, strike, strike_one, strike_all}
use Rattle.hx_audit.specs.Recording.{AreAccepted, AreRecorded}
use Rattle.hx_audit.proofs.StruckRecorded.{struck_recorded}
use Rattle.hx_tape_lines.specs.declared.fault.Kind.TheVariants as kind
use Rattle.hx_tape_lines.specs.Text.{Entry}
use Rattle.hx_tape_lines.specs.Events.{event_of, is_unknown, IsKnown}
use Rattle.hx_replay.specs.Run.{Progress, start, kind_of, check_of, after, output_all, AreEvents}
use Rattle.hx_replay.specs.Seen.{texts_of, output_lines}
use Rattle.hx_replay.specs.Grep.{lines_except, lines_of_feed}
use Rattle.hx_replay.specs.Struck.{without_chosen, struck, struck_all}
use Rattle.hx_replay.specs.Quiet.{TextsTellNothing}
use Rattle.hx_replay.proofs.NoTrace.{texts_are, no_trace, tells_nothing}
use Rattle.hx_replay.proofs.Strikes.{filter-events, recorded}
use Rattle.hx_replay.proofs.Texts.{except_texts, feed_texts}

-- An event that passes the checks is known, and the market accepts it.

accepted_of : (r : Option PrepareError) → (r ≡ Some refused.NoMemory → ⊥) → kind_of r ≡ None → r ≡ None
accepted_of None never h = refl
accepted_of (Some refused.BadTime) never h = absurd (let z : Some kind.Time ≡ None = h in cc)
accepted_of (Some refused.NoMember) never h = absurd (let z : Some kind.Member ≡ None = h in cc)
accepted_of (Some (refused.Limit m)) never h = absurd (let z : Some kind.Limit ≡ None = h in cc)
accepted_of (Some refused.NoMemory) never h = absurd (never refl)

never_memory : (setup : Setup) (counts : List ℕ) (event : Event) → refusal setup counts event ≡ Some refused.NoMemory → ⊥
never_memory setup counts event h = at _ _ _ h
  where
    at : (a b c : Bool) → cond a (Some refused.BadTime) (cond b (Some refused.NoMember) (cond c (Some (refused.Limit (sender event))) None)) ≡ Some refused.NoMemory → ⊥
    at true b c h = absurd (let z : Some refused.BadTime ≡ Some refused.NoMemory = h in cc)
    at false true c h = absurd (let z : Some refused.NoMember ≡ Some refused.NoMemory = h in cc)
    at false false true h = absurd (let z : Some (refused.Limit (sender event)) ≡ Some refused.NoMemory = h in cc)
    at false false false h = absurd (let z : None ≡ Some refused.NoMemory = h in cc)

record Passes (p : Progress) (e : Entry) : Type 0 where
  known : is_unknown e ≡ false
  accepted : refusal p.setup p.market.recorded (event_of e) ≡ None

passes_of : (p : Progress) (e : Entry) → check_of p e ≡ None → Passes p e
unfolding check_of
passes_of p e h = at (is_unknown e) refl h
  where
    at : (b : Bool) → is_unknown e ≡ b → cond b (Some kind.Bad) (kind_of (refusal p.setup p.market.recorded (event_of e))) ≡ None → Passes p e
    at true is h = absurd (let z : Some kind.Bad ≡ None = h in cc)
    at false is h = record { known = is; accepted = accepted_of (refusal p.setup p.market.recorded (event_of e)) (never_memory p.setup p.market.recorded (event_of e)) h }

pub all_known : (p : Progress) (es : List Entry) → AreEvents p es → AllByRecursion IsKnown es
all_known p [] h = tt
all_known p (e ∷ es) h = (record { entry = h.0.entry; known = (passes_of p e h.0.passes).known }, all_known (after p e) es h.1)

all_accepted : (p : Progress) (es : List Entry) → AreEvents p es → AreAccepted p.setup p.market (map event_of es)
unfolding after
all_accepted p [] h = tt
all_accepted p (e ∷ es) h = ((passes_of p e h.0.passes).accepted, all_accepted (after p e) es h.1)

all_recorded : (setup : Setup) (es : List Entry) → AreEvents (start setup) es → AreRecorded setup (map event_of es)
unfolding start
all_recorded setup es h = all_accepted (start setup) es h

-- What is left is events again.

left_events : (s : Choice) (es : List Entry) → strike s (map event_of es) ≡ map event_of (without_chosen s es)
unfolding strike
left_events s es = filter-events s es

left_taken : (setup : Setup) (s : Choice) (es : List Entry) → AreEvents (start setup) es → AreEvents (start setup) (without_chosen s es)
left_taken setup s es h =
    recorded setup (without_chosen s es) (all_filtered IsKnown (λ e. not (bears s (event_of e))) es (all_known (start setup) es h))
    (subst (λ (events : List Event). AreRecorded setup events) (left_events s es) (struck_recorded setup s (map event_of es) (all_recorded setup es h)))

left_output : (setup : Setup) (s : Choice) (es : List Entry) → output_all (start setup) (without_chosen s es) ≡ texts_of (output_lines setup (strike s (map event_of es)))
left_output setup s es = texts_are setup (without_chosen s es) ∙ ap (λ (events : List Event). texts_of (output_lines setup events)) (sym (left_events s es))

-- The texts show the same.

except_same : (setup : Setup) (es : List Entry) (m : ℕ) → m < 4096 → lines_except m (output_all (start setup) es) ≡ lines_except m (output_all (start setup) (struck setup m es))
unfolding struck strike_one
except_same setup es m low =
    let events = map event_of es in
    let s = quiet_of_one m (run setup events) in
    ap (lines_except m) (texts_are setup es)
    ∙ except_texts m low (output_lines setup events)
    ∙ ap texts_of ((no_trace setup es).same m)
    ∙ sym (except_texts m low (output_lines setup (strike s events)))
    ∙ ap (lines_except m) (sym (left_output setup s es))

feed_same : (setup : Setup) (es : List Entry) → lines_of_feed (output_all (start setup) es) ≡ lines_of_feed (output_all (start setup) (struck_all setup es))
unfolding struck_all strike_all
feed_same setup es =
    let events = map event_of es in
    let s = is_quiet (run setup events) in
    ap lines_of_feed (texts_are setup es)
    ∙ feed_texts (output_lines setup events)
    ∙ ap texts_of (tells_nothing setup events).all
    ∙ sym (feed_texts (output_lines setup (strike s events)))
    ∙ ap lines_of_feed (sym (left_output setup s es))

pub texts_tell_nothing : (setup : Setup) (es : List Entry) → AreEvents (start setup) es → TextsTellNothing setup es
unfolding struck struck_all
texts_tell_nothing setup es h = record {
  taken = λ m. left_taken setup (quiet_of_one m (run setup (map event_of es))) es h;
  same = except_same setup es;
  all_taken = left_taken setup (is_quiet (run setup (map event_of es))) es h;
  all_same = feed_same setup es;
}
