-- A tape is struck: events and entries, and the first fault.
use Rattle.std.proofs.Common.{◌≡◌, Bool, true, false, cond, not, List, [], ◌∷◌, ◌++◌, map, Some, refl, ap, ◌∙◌}
use Rattle.std.specs.List.{AllByRecursion, filter}
use Rattle.hx_members.specs.Setups.{Setup}
use Rattle.hx_rules.specs.declared.event.Event.{Event}
use Rattle.hx_rules.specs.declared.fault.PrepareError.{PrepareError}
use Rattle.hx_market.specs.Markets.{Market}
use Rattle.hx_market.specs.Refusals.{refusal}
use Rattle.hx_market.specs.Steps.{run}
use Rattle.hx_market.specs.QuietChains.{Choice, bears}
use Rattle.hx_audit.specs.Recording.{AreAccepted, AreRecorded}
use Rattle.hx_tape_lines.specs.Text.{Entry}
use Rattle.hx_tape_lines.specs.Events.{event_of, is_unknown, IsKnown}
use Rattle.hx_replay.specs.Run.{Progress, start, kind_of, check_of, after, after_all, AreEvents}
use Rattle.hx_tape_lines.specs.Text.{entry_of_event}
use Rattle.hx_tape_lines.proofs.Back.{entry_back}
use Rattle.hx_replay.proofs.Applying.{checked}
use Rattle.hx_replay.proofs.OutputIsOfEvents.{market_is_run}

-- Entries are those of their events.

pub entries_back : (es : List Entry) → AllByRecursion IsKnown es → map entry_of_event (map event_of es) ≡ es
entries_back [] h = refl
entries_back (e ∷ es) h = ap (λ (x : Entry). x ∷ map entry_of_event (map event_of es)) (entry_back e h.0) ∙ ap (λ (l : List Entry). e ∷ l) (entries_back es h.1)

-- The lines that stay.

pub filter-events : (s : Choice) (es : List Entry) → filter (λ v. not (bears s v)) (map event_of es) ≡ map event_of (filter (λ e. not (bears s (event_of e))) es)
filter-events s [] = refl
filter-events s (e ∷ es) = at (bears s (event_of e)) (filter-events s es)
  where
    at : (b : Bool) → filter (λ v. not (bears s v)) (map event_of es) ≡ map event_of (filter (λ e. not (bears s (event_of e))) es)
        → cond (not b) (event_of e ∷ filter (λ v. not (bears s v)) (map event_of es)) (filter (λ v. not (bears s v)) (map event_of es))
        ≡ map event_of (cond (not b) (e ∷ filter (λ e. not (bears s (event_of e))) es) (filter (λ e. not (bears s (event_of e))) es))
    at true h = h
    at false h = ap (λ (l : List Event). event_of e ∷ l) h

-- Recorded events are those of entries that pass the checks.

accepted : (p : Progress) (es : List Entry) → AllByRecursion IsKnown es → AreAccepted p.setup p.market (map event_of es) → AreEvents p es
unfolding after
accepted p [] k h = tt
accepted p (e ∷ es) k h = (record { entry = k.0.entry; passes = checked p e k.0.known ∙ ap kind_of h.0 }, accepted (after p e) es k.1 h.1)

pub recorded : (setup : Setup) (es : List Entry) → AllByRecursion IsKnown es → AreRecorded setup (map event_of es) → AreEvents (start setup) es
unfolding start
recorded setup es k h = accepted (start setup) es k h

setup_stays : (p : Progress) (es : List Entry) → (after_all p es).setup ≡ p.setup
unfolding after
setup_stays p [] = refl
setup_stays p (e ∷ es) = setup_stays (after p e) es

start_setup : (setup : Setup) (es : List Entry) → (after_all (start setup) es).setup ≡ setup
unfolding start
start_setup setup es = setup_stays (start setup) es

-- why the market refuses the event that follows
pub refused_then : (setup : Setup) (es : List Entry) (e : Entry) (error : PrepareError) → is_unknown e ≡ false → refusal setup (run setup (map event_of es)).recorded (event_of e) ≡ Some error
    → check_of (after_all (start setup) es) e ≡ kind_of (Some error)
refused_then setup es e error known h =
    let p : Progress = after_all (start setup) es in
    checked p e known
    ∙ ap kind_of (ap (λ (s : Setup). refusal s p.market.recorded (event_of e)) (start_setup setup es) ∙ ap (λ (k : Market). refusal setup k.recorded (event_of e)) (market_is_run setup es) ∙ h)

pub all_more : (xs : List Entry) (y : Entry) → AllByRecursion IsKnown xs → IsKnown y → AllByRecursion IsKnown (xs ++ y ∷ [])
all_more [] y h k = (k, tt)
all_more (x ∷ xs) y h k = (h.0, all_more xs y h.1 k)
