-- What a strike sees of the lines that are taken.
use Rattle.std.proofs.Common.{◌≡◌, ℕ, false, List, [], ◌∷◌, ◌++◌, map, Vec, Global, Result, Ok, Err, refl, sym, ap, ◌∙◌, subst}
use Rattle.std.specs.Prelude.{OnOk, IfOk, is_err}
use Rattle.std.proofs.lemmas.List.{map-append}
use Rattle.hx_members.specs.Setups.{Setup}
use Rattle.hx_rules.specs.declared.event.Event.{Event}
use Rattle.hx_market.specs.Markets.{Market}
use Rattle.hx_market.specs.Steps.{run, sender}
use Rattle.hx_market.specs.QuietChains.{Choice, bears, is_quiet}
use Rattle.hx_audit.specs.Auditing.{HasTaken, is_borne, choice_of}
use Rattle.hx_audit.specs.declared.auditor.Whose.{Whose}
use Rattle.hx_audit.specs.declared.auditor.Whose.TheVariants.{OfAll}
use Rattle.hx_tape_lines.specs.Text.{Entry, tape}
use Rattle.hx_tape_lines.specs.Events.{event_of}
use Rattle.hx_replay.specs.Run.{start, AreEvents}
use Rattle.hx_report.specs.declared.marks.Mark.{Mark}
use Rattle.hx_report.specs.declared.marks.TakenLine.{TakenLine}
use Rattle.hx_report.specs.declared.marks.TakenLines.{TakenLines}
use Rattle.hx_report.specs.Marks.{mark_of, marks_of, marked_by, AreLinesOf, HasTakenLines}
use Rattle.hx_report.proofs.Tapes.{on_ok}

lines_more : (es : List Entry) (ls : List TakenLine) (e : Entry) (l : TakenLine) → AreLinesOf es ls → l.sender ≡ sender (event_of e)
    → ((choice : Choice) → is_borne choice l.bearing ≡ bears choice (event_of e)) → AreLinesOf (es ++ e ∷ []) (ls ++ l ∷ [])
lines_more [] [] e l h s b = (s, b, tt)
lines_more [] (k ∷ ls) e l h s b = absurd h
lines_more (f ∷ es) [] e l h s b = absurd h
lines_more (f ∷ es) (k ∷ ls) e l h s b = (h.0, h.1, lines_more es ls e l h.2 s b)

-- one line more is taken
pub took_line : (old new : TakenLines) (es : List Entry) (e : Entry) (l : TakenLine) → HasTakenLines old es → HasTaken new.auditor (map event_of es ++ event_of e ∷ [])
    → new.lines.items ≡ old.lines.items ++ l ∷ [] → l.sender ≡ sender (event_of e) → ((choice : Choice) → is_borne choice l.bearing ≡ bears choice (event_of e))
    → HasTakenLines new (es ++ e ∷ [])
took_line old new es e l h took is s b = record {
  taken = subst (HasTaken new.auditor) (sym (map-append event_of es (e ∷ []))) took;
  lines_are = subst (AreLinesOf (es ++ e ∷ [])) (sym is) (lines_more es old.lines.items e l h.lines_are s b);
}

-- the same of an audit that gave no error
pub took_event : {T E : Type 0} (r : Result T E) (old new : TakenLines) (es : List Entry) (e : Entry) (x : Event) (l : TakenLine) → is_err r ≡ false
    → OnOk r ((events : List Event) → HasTaken old.auditor events → HasTaken new.auditor (events ++ x ∷ []))
    → new.lines.items ≡ old.lines.items ++ l ∷ [] → l.sender ≡ sender x → ((choice : Choice) → is_borne choice l.bearing ≡ bears choice x) → x ≡ event_of e → HasTakenLines old es
    → HasTakenLines new (es ++ e ∷ [])
took_event r old new es e x l passed took is s b same h =
    took_line old new es e l h
    (subst (λ (y : Event). HasTaken new.auditor (map event_of es ++ y ∷ [])) same (on_ok r _ passed took (map event_of es) h.taken))
    is (s ∙ ap sender same) (λ choice. b choice ∙ ap (bears choice) same)

marked : (market : Market) (es : List Entry) (ls : List TakenLine) → AreLinesOf es ls → map (marked_by (is_quiet market)) ls ≡ map (λ e. mark_of market (event_of e)) es
marked market [] [] h = refl
marked market [] (l ∷ ls) h = absurd h
marked market (e ∷ es) [] h = absurd h
marked market (e ∷ es) (l ∷ ls) h =
    (λ j. record { sender = h.0 j; quiet = h.1 (is_quiet market) j } ∷ marked market es ls h.2 j)

-- what an audit of all members sees of the lines that it has taken
pub all_marked : (setup : Setup) (t : TakenLines) (es : List Entry) → t.auditor.setup ≡ setup → t.auditor.whose ≡ OfAll → HasTakenLines t es
    → map (marked_by (choice_of t.auditor.whose t.auditor.market)) t.lines.items ≡ marks_of setup es
all_marked setup t es same all h =
    ap (λ (w : Whose). map (marked_by (choice_of w t.auditor.market)) t.lines.items) all
    ∙ ap (λ (m : Market). map (marked_by (is_quiet m)) t.lines.items) (h.taken.market_is ∙ ap (λ (s : Setup). run s (map event_of es)) same)
    ∙ marked (run setup (map event_of es)) es t.lines.items h.lines_are

-- the same of a list of marks, if there was memory for it
pub marks_ok : {E : Type 0} (r : Result (Vec Mark Global) E) (setup : Setup) (t : TakenLines) (lines : List TakenLine) (text : List ℕ) → t.auditor.setup ≡ setup → t.auditor.whose ≡ OfAll
    → ((es : List Entry) → AreEvents (start setup) es → text ≡ tape es → HasTakenLines t es) → lines ≡ t.lines.items
    → IfOk r (λ marks. marks.items ≡ map (marked_by (choice_of t.auditor.whose t.auditor.market)) lines)
    → IfOk r (λ marks. (es : List Entry) → AreEvents (start setup) es → text ≡ tape es → marks.items ≡ marks_of setup es)
marks_ok (Err e) setup t lines text same all took its h = tt
marks_ok (Ok marks) setup t lines text same all took its h =
    λ es are is. h ∙ ap (map (marked_by (choice_of t.auditor.whose t.auditor.market))) its ∙ all_marked setup t es same all (took es are is)
