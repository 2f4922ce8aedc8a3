-- The lines of a tape, taken one after the other.
use Rattle.std.proofs.Common.{◌≡◌, ℕ, true, false, List, [], ◌∷◌, ◌++◌, map, Result, Ok, Err, OnOk, is_err, refl, sym, ap, ◌∙◌, subst, append-nil, append_assoc}
use Rattle.std.specs.List.{AllByRecursion}
use Rattle.std.proofs.lemmas.List.{map-append}
use Rattle.hx_units.specs.Cuts.{Lacks}
use Rattle.hx_units.proofs.Splits.{same_split, none_split}
use Rattle.hx_rules.specs.declared.event.Event.{Event}
use Rattle.hx_tape_lines.specs.Text.{Entry, line, tape}
use Rattle.hx_tape_lines.specs.Events.{event_of, IsKnown, IsLineOf}
use Rattle.hx_tape_lines.specs.declared.fault.Kind.TheVariants as kind
use Rattle.hx_tape_lines.proofs.OneLine.{line_same}
use Rattle.hx_replay.proofs.OneReading.{tape-cons, line_no_feed}
use Rattle.hx_units.proofs.Lists.{line_feed-not_nil}

-- what holds if there was no error

pub on_ok : {T E : Type 0} (r : Result T E) (P : Type 0) → is_err r ≡ false → OnOk r P → P
on_ok (Ok x) P f h = h
on_ok (Err e) P f h = absurd (let z : true ≡ false = f in cc)

-- ---- what a line says

-- the event of a line is that of the entry whose line it is
pub event_is : (text : List ℕ) (event : Event) (e : Entry) → IsLineOf text event → IsKnown e → text ≡ line e → event ≡ event_of e
event_is text event e l k h = l.event_is ∙ ap event_of (line_same l.entry e l.is_known.entry k.entry (sym l.is_line ∙ h))

-- ---- entries that are taken say something

-- ---- so far

-- of these entries some are taken, of which this holds, and the rest is the tape of the others
pub record GoesOn (es : List Entry) (rest : List ℕ) (Holds : List Entry → Type 0) : Type 0 where
  pub done : List Entry
  pub others : List Entry
  pub all : es ≡ done ++ others
  pub rest_is : rest ≡ tape others
  pub so_far : Holds done

pub begins : (es : List Entry) (text : List ℕ) (Holds : List Entry → Type 0) → text ≡ tape es → Holds [] → GoesOn es text Holds
begins es text Holds is h = record { done = []; others = es; all = refl; rest_is = is; so_far = h }

known_there : (xs : List Entry) (e : Entry) (ys : List Entry) → AllByRecursion IsKnown (xs ++ e ∷ ys) → IsKnown e
known_there [] e ys k = k.0
known_there (x ∷ xs) e ys k = known_there xs e ys k.1

-- one line more
pub goes_on : (es : List Entry) (rest text others : List ℕ) (Before After : List Entry → Type 0) → AllByRecursion IsKnown es → GoesOn es rest Before → rest ≡ text ++ 10 ∷ others → Lacks 10 text
    → ((done : List Entry) (e : Entry) (left : List Entry) → es ≡ done ++ e ∷ left → IsKnown e → text ≡ line e → Before done → After (done ++ e ∷ [])) → GoesOn es others After
goes_on es rest text others Before After known g cut lacks step = at g.others g.all g.rest_is
  where
    at : (left : List Entry) → es ≡ g.done ++ left → rest ≡ tape left → GoesOn es others After
    at [] all is = absurd (line_feed-not_nil text others (sym cut ∙ is))
    at (e ∷ left) all is =
        let k : IsKnown e = known_there g.done e left (subst (λ (l : List Entry). AllByRecursion IsKnown l) all known) in
        let same = same_split 10 text others (line e) (tape left) lacks (line_no_feed e k.entry) (sym cut ∙ is ∙ tape-cons e left) in
        record {
          done = g.done ++ e ∷ [];
          others = left;
          all = all ∙ sym (append_assoc g.done (e ∷ []) left);
          rest_is = same.1;
          so_far = step g.done e left all k same.0 g.so_far;
        }

-- if no line is left, all are taken
pub all_done : (es : List Entry) (rest : List ℕ) (Holds : List Entry → Type 0) → GoesOn es rest Holds → Lacks 10 rest → Holds es
all_done es rest Holds g lacks = at g.others g.all g.rest_is
  where
    at : (left : List Entry) → es ≡ g.done ++ left → rest ≡ tape left → Holds es
    at [] all is = subst Holds (sym (all ∙ append-nil g.done)) g.so_far
    at (e ∷ left) all is = absurd (none_split 10 (line e) (tape left) (subst (Lacks 10) (is ∙ tape-cons e left) lacks))

-- the events of one line more
pub events_more : (es : List Entry) (e : Entry) (x : Event) → x ≡ event_of e → map event_of es ++ x ∷ [] ≡ map event_of (es ++ e ∷ [])
events_more es e x is = ap (λ (y : Event). map event_of es ++ y ∷ []) is ∙ sym (map-append event_of es (e ∷ []))
